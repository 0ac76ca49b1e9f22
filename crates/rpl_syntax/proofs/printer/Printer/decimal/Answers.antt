use Rattle.std.proofs.Common.{◌<◌, ◌^◌, arith}
use Rattle.std.specs.Prelude.{string_bytes}
use Rattle.std.specs.Fmt.{decimal}
use Rattle.std.proofs.lemmas.Fmt.{IsAscii-decimal}
use Rattle.std.proofs.lemmas.Str.{IsUtf8-string_bytes, chars-IsAscii}
use Rattle.rpl_syntax.proofs.Grown.{seen_grown}
use Rattle.rpl_syntax.proofs.printer.Printer.decimal.Goals as goal

pub returns : goal.returns
returns c =
    let n = c.args.number in
    let small : n < 2 ^ 64 = omega (arith, c.ranges.number) in
    seen_grown (string_bytes c.self.inside.text) (decimal n) _ _ (decimal n) (IsUtf8-string_bytes c.self.inside.text)
    c.self.view_is (chars-IsAscii (decimal n) (IsAscii-decimal n small)) c.in_ok-write.ensures.bytes

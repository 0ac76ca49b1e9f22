use Rattle.std.specs.Prelude.{string_bytes}
use Rattle.std.proofs.lemmas.Str.{IsUtf8-string_bytes}
use Rattle.rpl_syntax.proofs.Grown.{seen_grown, chars_one}
use Rattle.rpl_syntax.proofs.printer.Printer.put.Goals as goal

pub returns : goal.returns
returns c = seen_grown (string_bytes c.self.inside.text) _ _ _ _ (IsUtf8-string_bytes c.self.inside.text) c.self.view_is
    (chars_one c.args.c c.ranges.c.0) c.in_ok-push.ensures.bytes

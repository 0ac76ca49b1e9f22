use Rattle.std.specs.Prelude.{string_bytes}
use Rattle.std.proofs.lemmas.Str.{IsUtf8-string_bytes}
use Rattle.rpl_syntax.proofs.Grown.{seen_grown}
use Rattle.rpl_syntax.proofs.printer.Printer.word.Goals as goal

pub returns : goal.returns
returns c = seen_grown (string_bytes c.self.inside.text) _ _ _ _ (IsUtf8-string_bytes c.self.inside.text) c.self.view_is
    c.as_str.ensures c.in_ok-push_str.ensures.bytes

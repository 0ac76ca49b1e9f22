use Rattle.std.proofs.Common.{sym, ap, ◌∙◌}
use Rattle.std.proofs.lemmas.Str.{chars-nil}
use Rattle.rpl_text.specs.inside.Held.{held}
use Rattle.rpl_text.proofs.chars.Chars.as_str.Goals as goal

pub returns-in-Nothing : goal.returns-in-Nothing
returns-in-Nothing c = chars-nil ∙ sym (sym c.self.view_is ∙ ap held c.in-Nothing.is)

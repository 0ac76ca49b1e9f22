use Rattle.std.proofs.Common.{sym, ap, ◌∙◌}
use Rattle.rpl_syntax.specs.Expression as M
use Rattle.rpl_macro.proofs.Rows.{no_text}
use Rattle.rpl_macro.proofs.uses.note.Goals as goal

pub returns : goal.returns
returns c = ap M.Note (c.empty.ensures ∙ sym (no_text c.args.arg c.in_default.not-Text))

use Rattle.std.proofs.Common.{◌∙◌}
use Rattle.rpl_text.proofs.Escaped.{escape_same}
use Rattle.rpl_text.proofs.escapes.read_escape.Goals as goal

pub returns-clause-chars : goal.returns-clause-chars
returns-clause-chars c = c.escape_at.ensures ∙ escape_same c.args.text.now c.args.place c.utf8.text c.requires

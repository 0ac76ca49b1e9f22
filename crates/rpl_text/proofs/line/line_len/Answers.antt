use Rattle.std.proofs.Common.{sym}
use Rattle.rpl_text.proofs.Walks.{at_end}
use Rattle.rpl_text.proofs.line.line_len.Goals as goal

pub returns : goal.returns
returns c = sym (at_end _ c.utf8.line)

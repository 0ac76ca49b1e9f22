use Rattle.rpl_syntax.proofs.Printing.{reads_back}
use Rattle.rpl_syntax.proofs.laws.reads_back.Goals as goal

pub returns : goal.returns
returns c = reads_back

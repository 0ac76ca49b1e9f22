use Rattle.rpl_syntax.proofs.Back.{printed_reads_back}
use Rattle.rpl_syntax.proofs.laws.printed_reads_back.Goals as goal

pub returns : goal.returns
returns c = printed_reads_back

use Rattle.rpl_parser.proofs.Told.{printed_again}
use Rattle.rpl_parser.proofs.laws.printed_again.Goals as goal

pub returns : goal.returns
returns c = printed_again

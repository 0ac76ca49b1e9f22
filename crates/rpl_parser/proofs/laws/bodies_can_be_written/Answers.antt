use Rattle.rpl_parser.proofs.Bodies.{bodies_written}
use Rattle.rpl_parser.proofs.laws.bodies_can_be_written.Goals as goal

pub returns : goal.returns
returns c = bodies_written

use Rattle.rpl_core.proofs.Depth.{depth_holds}
use Rattle.rpl_core.proofs.laws.depth_law.Goals as goal

pub returns : goal.returns
returns c = depth_holds

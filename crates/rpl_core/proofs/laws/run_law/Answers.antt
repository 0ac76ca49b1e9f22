use Rattle.rpl_core.proofs.Bounds.{run_holds}
use Rattle.rpl_core.proofs.laws.run_law.Goals as goal

pub returns : goal.returns
returns c = run_holds

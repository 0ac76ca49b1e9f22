use Rattle.rpl_core.proofs.Flat.{flat_holds}
use Rattle.rpl_core.proofs.laws.flat_law.Goals as goal

pub returns : goal.returns
returns c = flat_holds

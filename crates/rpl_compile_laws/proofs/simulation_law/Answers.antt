use Rattle.rpl_compile_laws.proofs.Whole.{simulation_holds}
use Rattle.rpl_compile_laws.proofs.simulation_law.Goals as goal

pub returns : goal.returns
returns c = simulation_holds

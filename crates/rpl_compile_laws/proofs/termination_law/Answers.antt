use Rattle.rpl_compile_laws.proofs.Termination.{ends_holds}
use Rattle.rpl_compile_laws.proofs.termination_law.Goals as goal

pub returns : goal.returns
returns c = ends_holds

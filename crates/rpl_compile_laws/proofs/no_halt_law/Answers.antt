use Rattle.rpl_compile_laws.proofs.NoHalt.{no_halt_holds}
use Rattle.rpl_compile_laws.proofs.no_halt_law.Goals as goal

pub returns : goal.returns
returns c = no_halt_holds

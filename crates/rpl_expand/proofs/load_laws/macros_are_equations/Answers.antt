use Rattle.rpl_expand.proofs.Macros.{macros_are_equations}
use Rattle.rpl_expand.proofs.load_laws.macros_are_equations.Goals as goal

pub returns : goal.returns
returns c = macros_are_equations

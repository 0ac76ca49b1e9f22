use Rattle.rpl_macro.proofs.Twice.{twice}
use Rattle.rpl_macro.proofs.laws.ci_is_once.Goals as goal

pub returns : goal.returns
returns c = twice

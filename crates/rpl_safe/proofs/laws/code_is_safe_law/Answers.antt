use Rattle.rpl_safe.proofs.Whole.{code_is_safe_holds}
use Rattle.rpl_safe.proofs.laws.code_is_safe_law.Goals as goal

pub returns : goal.returns
returns c = code_is_safe_holds

use Rattle.rpl_core.proofs.Codes.{code_holds}
use Rattle.rpl_core.proofs.laws.code_law.Goals as goal

pub returns : goal.returns
returns c = code_holds

use Rattle.rpl_core.proofs.Reaching.{has_code}
use Rattle.rpl_core.proofs.laws.has_code_law.Goals as goal

pub returns : goal.returns
returns c = has_code

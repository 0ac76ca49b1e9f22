use Rattle.rpl_safe.proofs.Kept.{safe_run_holds}
use Rattle.rpl_safe.proofs.laws.safe_run_law.Goals as goal

pub returns : goal.returns
returns c = safe_run_holds

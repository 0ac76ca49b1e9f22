use Rattle.rpl_safe.proofs.Kept.{safe_match_holds}
use Rattle.rpl_safe.proofs.laws.safe_match_law.Goals as goal

pub returns : goal.returns
returns c = safe_match_holds

use Rattle.rosie_session.proofs.Paying.{pays_holds}
use Rattle.rosie_session.proofs.laws.budget_law.Goals as goal

pub returns : goal.returns
returns c = pays_holds

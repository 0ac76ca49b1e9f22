use Rattle.rosie_session.proofs.Sessions.{try_holds}
use Rattle.rosie_session.proofs.laws.try_law.Goals as goal

pub returns : goal.returns
returns c = try_holds

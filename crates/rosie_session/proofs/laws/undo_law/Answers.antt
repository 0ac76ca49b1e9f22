use Rattle.rosie_session.proofs.Sessions.{undo_holds}
use Rattle.rosie_session.proofs.laws.undo_law.Goals as goal

pub returns : goal.returns
returns c = undo_holds

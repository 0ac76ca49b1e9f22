use Rattle.rosie_session.proofs.Sessions.{never_stops}
use Rattle.rosie_session.proofs.laws.no_stop_law.Goals as goal

pub returns : goal.returns
returns c = never_stops

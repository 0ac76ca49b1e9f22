use Rattle.rosie_session.proofs.OneLoad.{one_holds}
use Rattle.rosie_session.proofs.laws.one_loading.Goals as goal

pub returns : goal.returns
returns c = one_holds

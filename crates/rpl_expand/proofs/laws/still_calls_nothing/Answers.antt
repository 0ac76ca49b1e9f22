use Rattle.rpl_expand.proofs.Still.{still}
use Rattle.rpl_expand.proofs.laws.still_calls_nothing.Goals as goal

pub returns : goal.returns
returns c = still

use Rattle.rpl_expand.proofs.Loaded.{told_is_built}
use Rattle.rpl_expand.proofs.load_laws.told_is_built.Goals as goal

pub returns : goal.returns
returns c = told_is_built

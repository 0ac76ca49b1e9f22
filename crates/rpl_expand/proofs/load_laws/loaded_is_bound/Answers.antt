use Rattle.rpl_expand.proofs.Loaded.{loaded_is_bound}
use Rattle.rpl_expand.proofs.load_laws.loaded_is_bound.Goals as goal

pub returns : goal.returns
returns c = loaded_is_bound

use Rattle.rpl_expand.proofs.Loaded.{trees_are_made}
use Rattle.rpl_expand.proofs.load_laws.trees_are_made.Goals as goal

pub returns : goal.returns
returns c = trees_are_made

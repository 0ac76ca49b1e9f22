use Rattle.rpl_expand.proofs.Still.{least_nodes}
use Rattle.rpl_expand.proofs.laws.least_within_nodes.Goals as goal

pub returns : goal.returns
returns c = least_nodes

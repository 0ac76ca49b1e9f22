use Rattle.rpl_columns.proofs.Taking.{takes_nodes}
use Rattle.rpl_columns.proofs.laws.nodes_are_taken.Goals as goal

pub returns : goal.returns
returns c = takes_nodes

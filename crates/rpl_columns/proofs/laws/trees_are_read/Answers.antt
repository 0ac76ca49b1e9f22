use Rattle.rpl_columns.proofs.WholeTrees.{reads_trees}
use Rattle.rpl_columns.proofs.laws.trees_are_read.Goals as goal

pub returns : goal.returns
returns c = reads_trees

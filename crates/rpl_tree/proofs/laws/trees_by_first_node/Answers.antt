use Rattle.std.proofs.Common.{refl}
use Rattle.rpl_tree.proofs.Trees.{forest_of_cons}
use Rattle.rpl_tree.proofs.laws.trees_by_first_node.Goals as goal

pub returns : goal.returns
returns c = record { none = λ name. refl; first = forest_of_cons }

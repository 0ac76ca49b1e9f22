use Rattle.rpl_compile_laws.proofs.OneTree.{one_tree_holds}
use Rattle.rpl_compile_laws.proofs.one_tree_law.Goals as goal

pub returns : goal.returns
returns c = one_tree_holds

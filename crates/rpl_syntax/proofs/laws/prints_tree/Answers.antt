use Rattle.rpl_syntax.proofs.Written.{prints_tree}
use Rattle.rpl_syntax.proofs.laws.prints_tree.Goals as goal

pub returns : goal.returns
returns c = prints_tree

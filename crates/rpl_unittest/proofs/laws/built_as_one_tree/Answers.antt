use Rattle.rpl_unittest.proofs.Single.{built_as_one_holds}
use Rattle.rpl_unittest.proofs.laws.built_as_one_tree.Goals as goal

pub returns : goal.returns
returns c = built_as_one_holds

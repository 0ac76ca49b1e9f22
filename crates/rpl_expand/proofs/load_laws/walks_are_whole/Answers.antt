use Rattle.rpl_expand.proofs.Bounds.{walks_are_whole}
use Rattle.rpl_expand.proofs.load_laws.walks_are_whole.Goals as goal

pub returns : goal.returns
returns c = walks_are_whole

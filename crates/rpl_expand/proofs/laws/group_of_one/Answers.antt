use Rattle.std.proofs.Common.{refl}
use Rattle.rpl_expand.proofs.laws.group_of_one.Goals as goal

pub returns : goal.returns
returns c = λ k s p. refl

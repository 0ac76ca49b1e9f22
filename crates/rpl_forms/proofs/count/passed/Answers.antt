use Rattle.std.proofs.Common.{refl}
use Rattle.rpl_forms.proofs.count.passed.Goals as goal

pub returns : goal.returns
returns c =
    λ p f. c.node.ensures.many _ (c.pair-step.ensures _ _ (c.node-not.ensures.not p f) (c.leaf.ensures _ refl refl))

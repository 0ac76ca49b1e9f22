use Rattle.std.proofs.Common.{refl}
use Rattle.rpl_forms.specs.Forms.{empty}
use Rattle.rpl_forms.proofs.count.or_nothing.Goals as goal

pub returns : goal.returns
returns c =
    λ p f. c.node.ensures.choice _ (c.front-both.ensures p _ f
    (c.front-last.ensures empty _ (c.leaf.ensures empty refl refl) c.none.ensures.all))

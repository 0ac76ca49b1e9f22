use Rattle.rpl_forms.specs.Forms.{or_nothing}
use Rattle.rpl_forms.proofs.count.bounded.Goals as goal

pub returns : goal.returns
returns c =
    λ p f. c.node.ensures.seq _ (c.copies-all.ensures p _ f
    (c.copies-last.ensures (or_nothing p) _ (c.or_nothing.ensures p f) c.none.ensures.all))

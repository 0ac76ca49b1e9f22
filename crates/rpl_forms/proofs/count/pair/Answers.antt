use Rattle.rpl_forms.proofs.count.pair.Goals as goal

pub returns : goal.returns
returns c = λ p q f g. c.node.ensures.seq _ (c.front-both.ensures p _ f (c.front-last.ensures q _ g c.none.ensures.all))

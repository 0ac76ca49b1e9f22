use Rattle.rpl_forms.proofs.count.cooked_turns.Goals as goal

pub returns : goal.returns
returns c = λ b p f g.
    let turn = c.pair-turn.ensures b p f g in
    c.node.ensures.seq _ (c.front-all.ensures p _ g
    (c.copies-rest.ensures _ _ turn (c.copies-last.ensures _ _ (c.or_nothing.ensures _ turn) c.none.ensures.all)))

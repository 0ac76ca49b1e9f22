use Rattle.std.proofs.Common.{sym, subst}
use Rattle.rpl_forms.specs.Counting.{Counts}
use Rattle.rpl_forms.specs.Forms.{cooked_endless}
use Rattle.rpl_forms.proofs.Counted.{cooked_more}
use Rattle.rpl_forms.proofs.count.cooked_endless.Goals as goal

pub returns-then-least-eq0 : goal.returns-then-least-eq0
returns-then-least-eq0 c = λ b p f g.
    let turn = c.pair-turn.ensures b p f g in
    subst (λ n. Counts c.or_nothing.result (cooked_endless b p n)) (sym c.if-least-eq0.true)
    (c.or_nothing.ensures _ (c.pair-some.ensures p _ g (c.node-many.ensures.many _ turn)))

pub returns : goal.returns
returns c = λ b p f g.
    let turn = c.pair-turn.ensures b p f g in
    subst (Counts c.node.result) (sym (cooked_more b p c.args.least c.if-least-eq0.false))
    (c.node.ensures.seq _ (c.front-all.ensures p _ g
    (c.copies-rest.ensures _ _ turn
    (c.front-last.ensures _ _ (c.node-many.ensures.many _ turn) c.none.ensures.all))))

use Rattle.std.proofs.Common.{sym, subst}
use Rattle.rpl_core.specs.Core.{Many}
use Rattle.rpl_forms.specs.Counting.{Counts}
use Rattle.rpl_forms.specs.Forms.{endless}
use Rattle.rpl_forms.proofs.Counted.{endless_more}
use Rattle.rpl_forms.proofs.count.endless.Goals as goal

pub returns-then-least-eq0 : goal.returns-then-least-eq0
returns-then-least-eq0 c =
    λ p f. subst (λ n. Counts c.node-many.result (endless p n)) (sym c.if-least-eq0.true) (c.node-many.ensures.many p f)

pub returns : goal.returns
returns c = λ p f.
    subst (Counts c.node.result) (sym (endless_more p c.args.least c.if-least-eq0.false))
    (c.node.ensures.seq _ (c.front-all.ensures p _ f
    (c.copies-rest.ensures p _ f (c.front-last.ensures (Many p) _ (c.node-many.ensures.many p f)
    c.none.ensures.all))))

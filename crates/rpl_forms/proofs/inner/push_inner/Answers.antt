use Rattle.std.proofs.Common.{◌++◌, ◌∷◌, [], length, sym, ap, ◌∙◌, subst}
use Rattle.rpl_core.specs.View.{core_of}
use Rattle.rpl_forms.specs.Counting.{KnowsInners}
use Rattle.rpl_forms.specs.Inlining.{inner}
use Rattle.rpl_forms.proofs.InnerCounts.{knows_more}
use Rattle.rpl_forms.proofs.inner.push_inner.Goals as goal

pub returns-clause-knows : goal.returns-clause-knows
returns-clause-knows c = λ I h long.
    let old = c.args.known.now.items in
    let same = c.deref.ensures.value in
    let here = subst (λ l. KnowsInners l I) (sym same) h in
    let next = c.next_inner-next.ensures I here (ap length same ∙ long) in
    subst (λ l. KnowsInners l (I ++ inner I c.args.rule.now.block (core_of c.args.rule.now.body) ∷ []))
    (sym c.in_ok-push.ensures.items) (knows_more old I c.next_inner-next.result _ long h next)

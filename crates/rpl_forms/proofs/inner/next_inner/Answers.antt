use Rattle.std.proofs.Common.{Some, None, sym, subst}
use Rattle.rpl_core.specs.View.{core_of}
use Rattle.rpl_forms.specs.Counting.{KnowsNext, nothing, stands}
use Rattle.rpl_forms.specs.Inlining.{inner, inlined}
use Rattle.rpl_forms.specs.declared.size.Inner.{Inner}
use Rattle.rpl_forms.proofs.inner.next_inner.Goals as goal

pub returns-in-Some : goal.returns-in-Some
returns-in-Some c = λ I h long.
    subst (λ b. KnowsNext I None (inner I b (core_of c.args.rule.now.body))) (sym c.in-Some.is) nothing

pub returns-in-None : goal.returns-in-None
returns-in-None c = λ I h long.
    let f = c.first_in_chain.ensures I h long in
    let n : Inner = record { count = c.weigh.result; rule = c.first_in_chain.result } in
    let p = inlined I (core_of c.args.rule.now.body) in
    subst (λ b. KnowsNext I (Some n) (inner I b (core_of c.args.rule.now.body))) (sym c.in-None.is)
    (stands n p (c.weigh.ensures I h) f.0 f.1)

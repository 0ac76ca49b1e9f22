use Rattle.std.proofs.Common.{◌+◌, ◌∷◌, [], length, sym, ap, ◌∙◌, subst, length-append}
use Rattle.rpl_core.specs.Listed.{rules_of}
use Rattle.rpl_forms.specs.Counting.{KnowsInners}
use Rattle.rpl_forms.specs.Rows.{inners_of}
use Rattle.rpl_forms.proofs.InnerCounts.{as_many, knows_pushed}
use Rattle.rpl_expand.proofs.growing.add_rule.Goals as goal

pub returns-clause-knows : goal.returns-clause-knows
returns-clause-knows c =
    let rs = rules_of c.args.rules.now in
    let long = c.requires.as_many ∙ sym (as_many rs) in
    let more = c.in_ok-push_inner.ensures.knows (inners_of rs) c.requires.knows long in
    let here = knows_pushed rs c.args.rule c.push_inner.new.known.items more in
    subst (λ l. KnowsInners c.push_inner.new.known.items (inners_of l)) (sym c.in_ok-push.ensures.ok) here

pub returns-clause-as_many : goal.returns-clause-as_many
returns-clause-as_many c =
    c.in_ok-push_inner.ensures.as_many ∙ ap (λ n. n + 1) c.requires.as_many
    ∙ sym (ap length c.in_ok-push.ensures.ok ∙ length-append (rules_of c.args.rules.now) (c.args.rule ∷ []))

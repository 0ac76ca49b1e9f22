use Rattle.std.proofs.Common.{◌≡◌, ◌<◌, ◌+◌, [], length, take, sym, ap, ◌∙◌, subst, arith}
use Rattle.std.specs.Option.{option_copied}
use Rattle.rpl_core.specs.Listed.{rules_of}
use Rattle.rpl_forms.specs.Counting.{KnowsInners}
use Rattle.rpl_forms.specs.Rows.{inners_of}
use Rattle.rpl_forms.proofs.Standing.{whole_inners}
use Rattle.rpl_forms.proofs.InnerCounts.{inners_turn, as_many_first, knows_none, rule_there}
use Rattle.rpl_forms.proofs.inner.inners.Goals as goal

pub loop-number-init : goal.loop-number-init
loop-number-init c = record {
  knows = subst (λ l. KnowsInners l []) (sym c.new-known.ensures.items) knows_none;
  as_many = ap length c.new-known.ensures.items;
}

pub loop-number-preserved : goal.loop-number-preserved
loop-number-preserved c =
    let rs = rules_of c.args.rules.now in
    let k = c.loop-number.number in
    let here = sym c.get.ensures ∙ ap option_copied c.in-Some.is in
    let first = as_many_first rs k c.in-Some.rule.now here in
    let more =
    c.in_ok-push_inner.ensures.knows (take k (inners_of rs)) c.loop-number.invariant.knows
    (c.loop-number.invariant.as_many ∙ sym first) in
    record {
      knows = subst (KnowsInners c.push_inner.new.known.items) (sym (inners_turn rs k c.in-Some.rule.now here)) more;
      as_many = c.in_ok-push_inner.ensures.as_many ∙ ap (λ n. n + 1) c.loop-number.invariant.as_many;
    }

pub returns-in_default-clause-knows : goal.returns-in_default-clause-knows
returns-in_default-clause-knows c =
    let rs = rules_of c.args.rules.now in
    let lt : c.loop-number.number < length rs =
    omega (arith, c.loop-number-test.true, c.len-number-end.ensures.count) in
    absurd (rule_there rs c.loop-number.number lt (sym c.get.ensures ∙ ap option_copied c.in_default.is))

pub returns-in_default-clause-as_many : goal.returns-in_default-clause-as_many
returns-in_default-clause-as_many c =
    let rs = rules_of c.args.rules.now in
    let lt : c.loop-number.number < length rs =
    omega (arith, c.loop-number-test.true, c.len-number-end.ensures.count) in
    absurd (rule_there rs c.loop-number.number lt (sym c.get.ensures ∙ ap option_copied c.in_default.is))

pub returns-clause-knows : goal.returns-clause-knows
returns-clause-knows c =
    let rs = rules_of c.args.rules.now in
    let n : c.loop-number.number ≡ length rs =
    omega (arith, c.loop-number-test.false, c.loop-number.auto.number-end, c.len-number-end.ensures.count) in
    subst (KnowsInners c.loop-number.known.items) (whole_inners rs c.loop-number.number n) c.loop-number.invariant.knows

pub returns-clause-as_many : goal.returns-clause-as_many
returns-clause-as_many c =
    let rs = rules_of c.args.rules.now in
    let n : c.loop-number.number ≡ length rs =
    omega (arith, c.loop-number-test.false, c.loop-number.auto.number-end, c.len-number-end.ensures.count) in
    c.loop-number.invariant.as_many ∙ n

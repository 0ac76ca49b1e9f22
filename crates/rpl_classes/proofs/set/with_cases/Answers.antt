use Rattle.std.proofs.Common.{◌≡◌, ◌+◌, ◌||◌, ◌&&◌, ◌∙◌, ap, arith}
use Rattle.std.specs.Prelude.{nat_eq}
use Rattle.regex_class.specs.Ranges.{in_ranges}
use Rattle.rpl_classes.specs.Algebra.{other_case}
use Rattle.rpl_classes.proofs.Cases.{is_cased, cases_none, cases_more, cases_all}
use Rattle.rpl_classes.proofs.set.with_cases.Goals as goal

pub loop-k-init : goal.loop-k-init
loop-k-init c = λ x. cases_none _ c.args.class.now.ranges.items x (c.in_ok-ranges.ensures.items ∙ c.deref.ensures.value)

pub loop-k-preserved : goal.loop-k-preserved
loop-k-preserved c =
    λ x. cases_more _ _ _ c.args.class.now.ranges.items c.loop-k.k x c.loop-k-test.true (c.loop-k.invariant x)
    (c.in_ok-push_where.ensures x
    ∙ ap (λ b. in_ranges c.loop-k.ranges.items x || (b && nat_eq x (0x41 + c.loop-k.k))) c.contains.ensures)
    (c.in_ok-push_where-2.ensures x
    ∙ ap (λ b. in_ranges c.push_where.new.ranges.items x || (b && nat_eq x (0x61 + c.loop-k.k)))
    c.contains-in-loop-k.ensures)

pub returns : goal.returns
returns c =
    let n : c.loop-k.k ≡ 26 = omega (arith, c.loop-k.auto.k-end, c.loop-k-test.false) in
    λ x. cases_all _ c.args.class.now.ranges.items x (c.loop-k.invariant x
    ∙ ap (λ k. in_ranges c.args.class.now.ranges.items x
    || (is_cased k x && in_ranges c.args.class.now.ranges.items (other_case x))) n)

use Rattle.std.proofs.Common.{◌≡◌, ◌∙◌, refl, sym, arith}
use Rattle.std.proofs.lemmas.List.{length-map}
use Rattle.std.specs.Prelude.{true, false}
use Rattle.rpl_core.specs.Listed.{rules_of}
use Rattle.rpl_core.specs.Table.{blocks_of, bodies_of}
use Rattle.rpl_core.specs.View.{core_of}
use Rattle.rpl_core.specs.declared.rules.Rule.{Rule}
use Rattle.rpl_core.specs.inside.Standing.{stands}
use Rattle.rpl_core.proofs.Standings.{order_of, order_stands}
use Rattle.rpl_core.proofs.Bools.{clash}
use Rattle.rpl_core.proofs.order.is_in_order.Goals as goal

pub returns-then-not-stands : goal.returns-then-not-stands
returns-then-not-stands c =
    let rules = rules_of c.args.rules.now in
    let k = c.loop-number.number in (
      λ t. absurd (let e : false ≡ true = t in cc),
      λ o. clash (stands (bodies_of rules) (blocks_of rules) k)
          (order_stands (blocks_of rules) (bodies_of rules) o k) (sym c.stands.ensures ∙ c.if-not-stands.true),
    )

pub returns : goal.returns
returns c =
    let rules = rules_of c.args.rules.now in
    let blocks_long = length-map rules (λ (r : Rule). r.block) in
    let bodies_long = length-map rules (λ (r : Rule). core_of r.body) in (
      λ t. order_of (blocks_of rules) (bodies_of rules)
          (λ k lt. c.loop-number.invariant.0 k
          (omega (arith, c.len-number-end.ensures.count, c.loop-number-test.false)))
          (bodies_long ∙ sym blocks_long),
      λ o. refl,
    )

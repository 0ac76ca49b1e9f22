use Rattle.std.proofs.Common.{◌≡◌, ◌+◌, ◌-◌, ◌∙◌, get_or, inl, inr, sym, ap, subst, arith}
use Rattle.std.specs.Prelude.{◌⊎◌, ◌||◌, true}
use Rattle.rpl_core.specs.Marks.{marked, waits}
use Rattle.rpl_facts.specs.Facts.{calls_at}
use Rattle.rpl_check.specs.inside.Rings.{AreBelow, root_of}
use Rattle.rpl_check.specs.inside.Within.{table_of, empty_in}
use Rattle.rpl_check.proofs.Rings.{waits_at}
use Rattle.rpl_check.proofs.Rooted.{below_next}
use Rattle.rpl_check.proofs.recursion.Block.mark_below.Goals.{then-has_root, else-has_root, then-place-roots}
use Rattle.rpl_check.proofs.recursion.Block.mark_below.Goals.{else-place-roots}
use Rattle.rpl_check.proofs.recursion.Block.mark_below.Goals as goal

pub loop-rule-preserved : goal.loop-rule-preserved
loop-rule-preserved c =
    let R = table_of c.args.self.now in
    let m = empty_in c.args.self.now in
    let a = c.args.self.now.start in
    let q = a + c.args.place in
    let roots = c.args.roots.now in
    let rules = c.deref-rule-items.result.now in
    let t = get_or rules c.loop-rule.rule-index 0 in
    let at : (a + c.args.place) - a ≡ c.args.place = omega arith in
    let from : (q ≡ root_of a roots q) ⊎ (marked c.args.below.now (q - a) ≡ true) =
    elim c.if-place-roots.branch [
      | then-place-roots w ↦ inl (ap (λ x. a + x) (w.if-place-roots.true ∙ sym (ap (λ i. get_or roots i 0) at)))
      | else-place-roots w ↦ inr (ap (λ i. marked c.args.below.now i) at ∙ sym w.value-is ∙ c.if-not-below-at.false)
    ] in
    let listed = c.in_ok-list_calls_of.ensures t in
    let called : calls_at m R q t ≡ true = ap (λ l. waits l t || calls_at m R q t) (sym c.new-list.ensures.items)
    ∙ sym listed ∙ ap (λ l. waits l t) (sym c.deref-rule-items.ensures.value)
    ∙ waits_at rules c.loop-rule.rule-index 0 c.loop-rule-test.true in
    elim c.if-has_root.branch [
      | then-has_root w ↦ (
          let h = c.has_root.ensures w.if-has_root.true in
          let same : root_of a roots t ≡ root_of a roots q =
          ap (λ x. a + x) (h.2 ∙ sym (ap (λ i. get_or roots i 0) at)) in
          subst (AreBelow R m a roots) (sym w.below-is) (below_next R m a roots q t c.args.below.now c.loop-rule.below
          (omega arith) h.0 called same from c.requires.below c.loop-rule.invariant)
          )
      | else-has_root w ↦ subst (AreBelow R m a roots) (sym w.below-is) c.loop-rule.invariant
    ]

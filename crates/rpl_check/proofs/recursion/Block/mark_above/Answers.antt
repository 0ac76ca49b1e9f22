use Rattle.std.proofs.Common.{◌≡◌, ◌+◌, ◌-◌, ◌≤◌, ◌∙◌, get_or, ⊎_elim, inl, inr, sym, ap, subst, arith}
use Rattle.std.specs.Prelude.{◌⊎◌, ◌||◌, slice_set, true}
use Rattle.rpl_core.specs.Marks.{marked, waits}
use Rattle.rpl_facts.specs.Facts.{calls_at}
use Rattle.rpl_check.specs.inside.Rings.{AreAbove, root_of}
use Rattle.rpl_check.specs.inside.Within.{table_of, empty_in}
use Rattle.rpl_check.proofs.Rings.{waits_at}
use Rattle.rpl_check.proofs.Rooted.{above_next}
use Rattle.rpl_check.proofs.recursion.Block.mark_above.Goals as goal

pub returns-then-is_above-clause-above : goal.returns-then-is_above-clause-above
returns-then-is_above-clause-above c =
    let R = table_of c.args.self.now in
    let m = empty_in c.args.self.now in
    let a = c.args.self.now.start in
    let p = c.args.place in
    let roots = c.args.roots.now in
    let rules = c.deref-rule-items.result.now in
    let t = get_or rules c.loop-rule.rule-index 0 in
    let above = c.loop-rule.above in
    let at : (a + p) - a ≡ p = omega arith in
    let called : calls_at m R (a + p) t ≡ true =
    ap (λ l. waits l t || calls_at m R (a + p) t) (sym c.new-list.ensures.items) ∙ sym (c.in_ok-list_calls_of.ensures t)
    ∙ ap (λ l. waits l t) (sym c.deref-rule-items.ensures.value)
    ∙ waits_at rules c.loop-rule.rule-index 0 c.loop-rule-test.true in
    let h = c.is_above.ensures c.if-is_above.true in
    let from : a ≤ t = h.0 in
    let same : root_of a roots t ≡ root_of a roots (a + p) =
    ap (λ x. a + x) (h.1 ∙ sym (ap (λ i. get_or roots i 0) at)) in
    let root : (t ≡ root_of a roots t) ⊎ (marked above (t - a) ≡ true) =
    ⊎_elim (λ e. inl (let k : t - a ≡ get_or roots (t - a) 0 = e ∙ sym h.1 in omega arith)) (λ e. inr e) h.2 in
    subst (λ i. AreAbove R m a roots (slice_set above i true)) at
    (above_next R m a roots (a + p) t above (omega arith) from called same root c.loop-rule.invariant)

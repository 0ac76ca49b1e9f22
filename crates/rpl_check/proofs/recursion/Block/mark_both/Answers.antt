use Rattle.std.proofs.Common.{◌≡◌, ◌+◌, ◌-◌, ◌∙◌, get_or, sym, ap, subst, arith}
use Rattle.std.specs.Prelude.{slice_set, true}
use Rattle.rpl_core.specs.Marks.{marked}
use Rattle.rpl_check.specs.inside.Reach.{OverReach}
use Rattle.rpl_check.specs.inside.Search.{AreLeft}
use Rattle.rpl_check.specs.inside.Within.{table_of, empty_in}
use Rattle.rpl_check.proofs.Rings.{left_set}
use Rattle.rpl_check.proofs.Rooted.{on_ring, on_root}
use Rattle.rpl_check.proofs.recursion.Block.mark_both.Goals.{then-below-at+then-is_root, then-above-at, else-above-at}
use Rattle.rpl_check.proofs.recursion.Block.mark_both.Goals.{else-below-at}
use Rattle.rpl_check.proofs.recursion.Block.mark_both.Goals as goal

pub loop-place-preserved : goal.loop-place-preserved
loop-place-preserved c =
    let R = table_of c.args.self.now in
    let m = empty_in c.args.self.now in
    let a = c.args.self.now.start in
    let p = c.loop-place.place in
    let roots = c.args.roots.now in
    let below = c.args.below.now in
    let above = c.args.above.now in
    let at : (a + p) - a ≡ p = omega arith in
    elim c.if-below-at.branch [
      | then-below-at+then-is_root w ↦ (
          let b : marked below ((a + p) - a) ≡ true = ap (λ i. marked below i) at ∙ w.if-below-at.true in
          let itself : OverReach R m (λ reach. reach (a + p) (a + p) ≡ true) =
          elim w.if-above-at.branch [
            | then-above-at v ↦ on_ring R m a roots (a + p) below above (omega arith) b (ap (λ i. marked above i) at
                ∙ v.if-above-at.true) c.requires.below c.requires.above
            | else-above-at v ↦ on_root R m a roots (a + p) below (omega arith) b (ap (λ i. get_or roots i 0) at
                ∙ v.is_root.ensures (sym v.value-is ∙ w.if-is_root.true) ∙ sym at) c.requires.below
          ] in
          subst (AreLeft R m a) (sym w.left-is) (subst (λ i. AreLeft R m a (slice_set c.loop-place.left i true)) at
          (left_set R m a (a + p) c.loop-place.left (omega arith) itself c.loop-place.invariant))
          )
      | else-below-at w ↦ subst (AreLeft R m a) (sym w.left-is) c.loop-place.invariant
    ]

use Rattle.std.proofs.Common.{[], ◌∷◌, ◌++◌, take, sym, ap, subst, ◌∙◌}
use Rattle.std.specs.List.{All}
use Rattle.std.specs.Prelude.{map}
use Rattle.rpl_classes.proofs.Normal.{norm_normal_same}
use Rattle.rpl_classes.specs.Norm.{norm}
use Rattle.rpl_classes.specs.Sets.{IsNormal}
use Rattle.rpl_intern.proofs.Keeping.{more_shown, holds_of}
use Rattle.rpl_intern.proofs.tables.Table+ClassRange.sets.Goals as goal

pub loop-ranges-preserved : goal.loop-ranges-preserved
loop-ranges-preserved c =
    let xs = c.deref-ranges-items.result.now in
    let x = c.ranges-item.result in
    let normal : IsNormal x.items =
    holds_of (λ v. v.items) IsNormal xs c.loop-ranges.ranges-index x c.loop-ranges-test.true c.ranges-item.is
    (subst (λ l. All IsNormal (map (λ v. v.items) l)) (sym c.deref-ranges-items.ensures.value) c.self.invariant.0) in
    c.in_ok-push.ensures.ok ∙ ap (λ l. l ++ c.in_ok-from_ranges.field-0 ∷ []) c.loop-ranges.invariant
    ∙ ap (λ s. map (λ v. v.items) (take c.loop-ranges.ranges-index xs) ++ s ∷ []) (c.in_ok-from_ranges.ensures.ranges
    ∙ ap norm c.deref.ensures.value ∙ norm_normal_same x.items normal)
    ∙ sym (more_shown (λ v. v.items) xs c.loop-ranges.ranges-index x c.loop-ranges-test.true c.ranges-item.is)

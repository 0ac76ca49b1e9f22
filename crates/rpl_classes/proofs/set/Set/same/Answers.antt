use Rattle.std.proofs.Common.{◌≡◌, ℕ, ◌∙◌, sym, ap, ap₂}
use Rattle.std.specs.Prelude.{◌&&◌, ◌==◌}
use Rattle.std.specs.Cmp.Lexicographic.{pointwise_decides}
use Rattle.std.proofs.lemmas.Bool.{and_parts, and_from, eqb-true, eq-eqb}
use Rattle.std.specs.Bool.{Decides}
use Rattle.regex_class.specs.Ranges.{Range}
use Rattle.rpl_classes.proofs.set.Set.same.Goals as goal

range_decides : (x y : Range) → Decides ((x.0 == y.0) && (x.1 == y.1)) (x ≡ y)
range_decides x y = (
  λ e. let p = and_parts _ _ e in
      ap₂ {A = ℕ} {B = ℕ} {C = Range} (λ a b. (a, b)) (eqb-true x.0 y.0 p.0) (eqb-true x.1 y.1 p.1),
  λ e. and_from _ _ (eq-eqb x.0 y.0 (ap (λ (r : Range). r.0) e)) (eq-eqb x.1 y.1 (ap (λ (r : Range). r.1) e)),
)

pub returns : goal.returns
returns c =
    let d = pointwise_decides range_decides c.as_slice.result.now c.as_slice-2.result.now in (
      λ e. sym c.as_slice.ensures.same ∙ d.0 (sym c.eq.ensures ∙ e) ∙ c.as_slice-2.ensures.same,
      λ e. c.eq.ensures ∙ d.1 (c.as_slice.ensures.same ∙ e ∙ sym c.as_slice-2.ensures.same),
    )

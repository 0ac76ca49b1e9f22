-- Ranges that are gathered: their order and number change, and their normal form doesn't.
use Rattle.std.proofs.Common.{◌≡◌, ℕ, List, ◌++◌, take, drop, refl, sym, ap, ◌∙◌}
use Rattle.std.proofs.lemmas.List.{take-append-drop}
use Rattle.std.specs.Prelude.{Bool, true, false, ◌||◌}
use Rattle.regex_class.specs.Ranges.{Range, in_ranges}
use Rattle.regex_class.proofs.RangesLemmas.{in_ranges-append}
use Rattle.rpl_classes.specs.Norm.{norm}
use Rattle.rpl_classes.proofs.Normal.{norm_alike, norm_just, norm_normal, norm_normal_same}

-- ranges of one normal form have one with others after them
pub norm_front : (a b s : List Range) → norm a ≡ norm b → norm (a ++ s) ≡ norm (b ++ s)
norm_front a b s e = norm_alike (a ++ s) (b ++ s) (λ c h.
    in_ranges-append a s c
    ∙ ap (λ x. x || in_ranges s c) (sym (norm_just a c h) ∙ ap (λ l. in_ranges l c) e ∙ norm_just b c h)
    ∙ sym (in_ranges-append b s c))

or_again : (x m : Bool) → (x || m) ≡ ((x || m) || m)
or_again true true = refl
or_again true false = refl
or_again false true = refl
or_again false false = refl

-- what ends in some ranges has the normal form that it has with them once more
pub norm_again : (a s : List Range) → ((x : List Range) × (a ≡ x ++ s)) → norm a ≡ norm (a ++ s)
norm_again a s h = norm_alike a (a ++ s) (λ c g.
    let own : in_ranges a c ≡ (in_ranges h.0 c || in_ranges s c) = ap (λ l. in_ranges l c) h.1
    ∙ in_ranges-append h.0 s c in
    own ∙ (or_again (in_ranges h.0 c) (in_ranges s c)
    ∙ (ap (λ b. b || in_ranges s c) (sym own) ∙ sym (in_ranges-append a s c))))

pub norm_same : (a b : List Range) → b ≡ norm a → norm b ≡ norm a
norm_same a b e = ap norm e ∙ norm_normal_same (norm a) (norm_normal a)

-- the last ranges
pub ends_in : (n : ℕ) (a v end s : List Range) → v ≡ a → end ≡ drop n v → end ≡ s → (x : List Range) × (a ≡ x ++ s)
ends_in n a v end s e d m = (take n v, sym e ∙ (sym (take-append-drop n v) ∙ ap (λ l. take n v ++ l) (sym d ∙ m)))

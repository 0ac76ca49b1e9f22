-- How far an inlining may go.
use Rattle.std.proofs.Common.{◌≡◌, ℕ, zero, suc, ◌+◌, ◌*◌, ◌<◌, List, [], ◌∷◌, ap, arith}
use Rattle.std.specs.Prelude.{Some, slice_get}
use Rattle.rpl_core.specs.View.{core_of}
use Rattle.rpl_core.specs.declared.rules.Rule.{Rule}
use Rattle.rpl_forms.specs.Sizes.{deep}

-- the depths of the bodies of the first n rules
abbrev pub reach : List Rule → ℕ → ℕ
reach [] n = 0
reach (r ∷ rs) zero = 0
reach (r ∷ rs) (suc n) = 3 * deep (core_of r.body) + 1 + reach rs n

-- the body of an earlier rule reaches less far
pub reach_less : (rs : List Rule) (n k : ℕ) (r : Rule) → slice_get rs k ≡ Some r → k < n
    → reach rs k + 3 * deep (core_of r.body) < reach rs n
reach_less [] n k r e lt = absurd cc
reach_less (x ∷ rs) zero k r e lt = absurd (omega arith)
reach_less (x ∷ rs) (suc n) zero r e lt =
    let same : x ≡ r = cc in let d = ap (λ y. deep (core_of y.body)) same in omega (arith, d)
reach_less (x ∷ rs) (suc n) (suc k) r e lt = let h = reach_less rs n k r e (omega arith) in omega (arith, h)

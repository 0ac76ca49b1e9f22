-- A rule that passes a test.
use Rattle.std.proofs.Common.{◌≡◌, ℕ, List, Option, Some, None, refl, ap, ◌∙◌}
use Rattle.std.specs.Prelude.{Bool, true, slice_get}
use Rattle.rpl_core.specs.Core.{Core}
use Rattle.rpl_facts.specs.Facts.{passes}

-- a rule that passes is in the table, and so does its body
pub passing : (f : Core → Bool) (R : List Core) (r : ℕ) → passes f (slice_get R r) ≡ true
    → (p : Core) × (slice_get R r ≡ Some p) × (f p ≡ true)
passing f R r = go (slice_get R r) refl
  where
    go : (o : Option Core) → slice_get R r ≡ o → passes f o ≡ true → (p : Core) × (slice_get R r ≡ Some p)
        × (f p ≡ true)
    go None e h = absurd (cc)
    go (Some p) e h = (p, e, h)

-- a rule of the table passes a test if its core does
pub pass_at : (f : Core → Bool) (R : List Core) (r : ℕ) (p : Core) → slice_get R r ≡ Some p → f p ≡ true
    → passes f (slice_get R r) ≡ true
pass_at f R r p e h = ap (passes f) e ∙ h

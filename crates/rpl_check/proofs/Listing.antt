-- How rules are listed, one after the other.
use Rattle.std.proofs.Common.{◌≡◌, ℕ, List, [], ◌∷◌, ◌++◌, refl, sym, ap, ◌∙◌}
use Rattle.std.proofs.Math.Bool.{or-false}
use Rattle.std.specs.Prelude.{Bool, true, false, ◌||◌, nat_eq}
use Rattle.rpl_core.specs.Marks.{waits}
use Rattle.rpl_check.specs.inside.Search.{Lists}
use Rattle.rpl_core.proofs.Marking.{waits_more}

-- none is listed
pub lists_none : (xs : List ℕ) → Lists (λ r. false) xs xs
lists_none xs r = sym (or-false (waits xs r))

-- one is
pub lists_one : (xs ys : List ℕ) (k : ℕ) → ys ≡ xs ++ k ∷ [] → Lists (λ r. nat_eq k r) xs ys
lists_one xs ys k e r = ap (λ l. waits l r) e ∙ waits_more xs k r

-- the same rules by another test
pub lists_as : (f g : ℕ → Bool) (xs ys : List ℕ) → Lists f xs ys → ((r : ℕ) → f r ≡ g r) → Lists g xs ys
lists_as f g xs ys a e r = a r ∙ ap (λ b. waits xs r || b) (e r)

-- some are listed, and then others
pub lists_then : (f g : ℕ → Bool) (xs ys zs : List ℕ) → Lists f xs ys → Lists g ys zs → Lists (λ r. f r || g r) xs zs
lists_then f g xs ys zs a b r = b r ∙ ap (λ k. k || g r) (a r) ∙ assoc (waits xs r) (f r) (g r)
  where
    assoc : (x y z : Bool) → ((x || y) || z) ≡ (x || (y || z))
    assoc true y z = refl
    assoc false y z = refl

-- Rules of a block that a root of theirs reaches, and that reach it.
use Rattle.std.specs.Prelude.{◌≡◌, ℕ, ◌+◌, ◌-◌, ◌≤◌, Bool, true, List, slice_index_or}
use Rattle.rpl_core.specs.Core.{Core}
use Rattle.rpl_core.specs.Marks.{marked}
use Rattle.rpl_check.specs.inside.Reach.{OverReach}

-- the root of a rule, where the list has the places of the roots in a block that begins at a
abbrev pub root_of : ℕ → List ℕ → ℕ → ℕ
root_of a roots q = a + slice_index_or roots (q - a) 0

-- each marked rule of a block that begins at a is reached from its root
abbrev pub AreBelow : List Core → (ℕ → Bool) → ℕ → List ℕ → List Bool → Type 0
AreBelow R m a roots marks =
    OverReach R m (λ reach. (q : ℕ) → a ≤ q → marked marks (q - a) ≡ true → reach (root_of a roots q) q ≡ true)

-- each marked rule of a block that begins at a reaches its root
abbrev pub AreAbove : List Core → (ℕ → Bool) → ℕ → List ℕ → List Bool → Type 0
AreAbove R m a roots marks =
    OverReach R m (λ reach. (q : ℕ) → a ≤ q → marked marks (q - a) ≡ true → reach q (root_of a roots q) ≡ true)

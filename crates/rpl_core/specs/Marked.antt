-- Which rules a goal reaches, as a set of their numbers and as a list of marks.
use Rattle.std.specs.BTreeSet.{BTreeSet, contains}
use Rattle.std.specs.Ordering.{nat_cmp}
use Rattle.std.specs.Prelude.{◌≡◌, ℕ, ◌<◌, Bool, true, false, ◌↔◌, List, length, Some, slice_get, slice_index_or}
use Rattle.rpl_core.specs.Core.{Core}
use Rattle.rpl_core.specs.Programs.{calls, Reaches}

-- the goal and all rules call rules of the table alone
pub record CallsAreRules (R : List Core) (g : Core) : Type 0 where
  pub goal : (r : ℕ) → calls g r ≡ true → r < length R
  pub rules : (q : ℕ) (p : Core) → slice_get R q ≡ Some p → (r : ℕ) → calls p r ≡ true → r < length R

-- the set has the rule
abbrev pub has : BTreeSet ℕ → ℕ → Bool
has s r = contains nat_cmp s r

-- the set has just the rules that the goal reaches
abbrev pub HasReached : List Core → Core → BTreeSet ℕ → Type 0
HasReached R g s = (r : ℕ) → (has s r ≡ true) ↔ Reaches R g r

-- the list marks the rule
abbrev pub marked : List Bool → ℕ → Bool
marked bs r = slice_index_or bs r false

-- the list has a mark for each rule of the table, and marks just those that the goal reaches
pub record MarksReached (R : List Core) (g : Core) (bs : List Bool) : Type 0 where
  pub long : length bs ≡ length R
  pub exact : (r : ℕ) → (marked bs r ≡ true) ↔ Reaches R g r

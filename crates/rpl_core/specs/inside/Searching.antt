-- The search for the rules that a goal reaches.
use Rattle.std.specs.BTreeSet.{IsOrdered, btree_set_len}
use Rattle.std.specs.Ordering.{nat_cmp}
use Rattle.std.specs.Prelude.{◌≡◌, ℕ, ◌+◌, Bool, true, ◌||◌, ◌&&◌, not, ◌⊎◌, List, length, Some, slice_get}
use Rattle.rpl_core.specs.Core.{Core}
use Rattle.rpl_core.specs.Programs.{calls, Reaches}
use Rattle.rpl_core.specs.Marks.{waits}
use Rattle.rpl_core.specs.Marked.{has}
use Rattle.rpl_core.specs.declared.reach.RuleSearch.{RuleSearch}

-- the rules that pass the test are found as well, and those found anew wait
pub record Finds (test : ℕ → Bool) (old new : RuleSearch) : Type 0 where
  pub found : (r : ℕ) → has new.found r ≡ (has old.found r || test r)
  pub waiting : (r : ℕ) → waits new.waiting.items r
      ≡ (waits old.waiting.items r || (has new.found r && not (has old.found r)))
  pub left : length new.waiting.items + btree_set_len old.found ≡ length old.waiting.items + btree_set_len new.found
  pub ordered : IsOrdered nat_cmp old.found → IsOrdered nat_cmp new.found

-- how far the search has come: what it has found is reached, and what a rule calls is found unless that rule waits
pub record Reached (R : List Core) (g : Core) (s : RuleSearch) : Type 0 where
  pub ordered : IsOrdered nat_cmp s.found
  pub under : (r : ℕ) → has s.found r ≡ true → Reaches R g r
  pub known : (r : ℕ) → waits s.waiting.items r ≡ true → has s.found r ≡ true
  pub goal : (r : ℕ) → calls g r ≡ true → has s.found r ≡ true
  pub rules : (q : ℕ) → has s.found q ≡ true
      → (waits s.waiting.items q ≡ true)
      ⊎ ((r : ℕ) (p : Core) → slice_get R q ≡ Some p → calls p r ≡ true → has s.found r ≡ true)

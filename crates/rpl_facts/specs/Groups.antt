-- Groups of a table: its blocks, and its rules outside blocks.
use Rattle.std.specs.Prelude.{◌≡◌, ℕ, ◌+◌, ◌-◌, ◌<◌, ◌≤◌, true, false, List, Option, Some, slice_get}
use Rattle.rpl_core.specs.Core.{Core}
use Rattle.rpl_core.specs.Order.{joins_next}
use Rattle.rpl_core.specs.Programs.{calls}

-- the rules from a on and before b stand together, and not with the next one
pub record IsGroup (blocks : List (Option ℕ)) (a b : ℕ) : Type 0 where
  pub some : a < b
  pub joined : (k : ℕ) → a ≤ k → k + 1 < b → joins_next blocks k ≡ true
  pub ends : joins_next blocks (b - 1) ≡ false

-- the rules before b call rules before b alone
abbrev pub CallsBefore : List Core → ℕ → Type 0
CallsBefore R b = (r s : ℕ) (p : Core) → r < b → slice_get R r ≡ Some p → calls p s ≡ true → s < b

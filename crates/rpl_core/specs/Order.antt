-- The order in which a table of rules stands.
use Rattle.std.specs.Prelude.{◌≡◌, ℕ, ◌+◌, ◌<◌, ◌≤◌, Bool, true, false, nat_eq, List, Option, Some, None, ◌⊎◌}
use Rattle.std.specs.Prelude.{slice_get}
use Rattle.rpl_core.specs.Core.{Core}
use Rattle.rpl_core.specs.Programs.{calls}

-- the block of a rule, if there is the rule and it stands in one
abbrev pub block_at : Option (Option ℕ) → Option ℕ
block_at None = None
block_at (Some block) = block

-- both rules stand in one block
abbrev pub AreTogether : List (Option ℕ) → ℕ → ℕ → Type 0
AreTogether blocks r s =
    (b : ℕ) × (block_at (slice_get blocks r) ≡ Some b) × (block_at (slice_get blocks s) ≡ Some b)

-- the rules of a block stand side by side, and a rule calls earlier rules and those of its block
pub record IsInOrder (R : List Core) (blocks : List (Option ℕ)) : Type 0 where
  pub side_by_side :
      (r s q b : ℕ) → r ≤ s → s ≤ q → block_at (slice_get blocks r) ≡ Some b → block_at (slice_get blocks q) ≡ Some b →
      block_at (slice_get blocks s) ≡ Some b
  pub earlier : (r s : ℕ) (p : Core) → slice_get R r ≡ Some p → calls p s ≡ true → (s < r) ⊎ AreTogether blocks r s

-- there are two blocks, and they are one
abbrev pub same_block : Option ℕ → Option ℕ → Bool
same_block (Some b) (Some c) = nat_eq b c
same_block _ _ = false

-- the rule k stands in one block with the next one
abbrev pub joins_next : List (Option ℕ) → ℕ → Bool
joins_next blocks k = same_block (block_at (slice_get blocks k)) (block_at (slice_get blocks (k + 1)))

-- What is asked of the statements of a table: which rules their names are bound to.
use Rattle.std.specs.Prelude.{◌≡◌, ◌⊎◌, ℕ, ◌+◌, ◌<◌, ◌≤◌, Bool, true, List, ◌∷◌, length, map, Option, Some, None}
use Rattle.std.specs.Prelude.{slice_get}
use Rattle.rpl_core.specs.Core.{Core, Capture}
use Rattle.rpl_core.specs.Order.{AreTogether, block_at}
use Rattle.rpl_core.specs.Programs.{calls}
use Rattle.rpl_syntax.specs.declared.name.QName.{QName}
use Rattle.rpl_forms.specs.Forms.{halt_rule}
use Rattle.rpl_expand.specs.Expansion.{Scope}
use Rattle.rpl_expand.specs.Table.{Statement}

-- what a statement with the number n in the table is bound to: each name that is asked for there stands for an earlier
-- rule, or for one of its block, and the boundary in force is an earlier rule
pub record IsBound (blocks : List (Option ℕ)) (n : ℕ) (s : Statement) : Type 0 where
  pub names : (q : QName) → (s.rule q < n) ⊎ AreTogether blocks n (s.rule q)
  pub boundary : s.boundary < n

-- the block of each rule of a table
abbrev pub table_blocks : List Statement → List (Option ℕ)
table_blocks ss = None ∷ None ∷ map (λ s. s.block) ss

-- all of some statements are bound so, and the rules of a block stand side by side
pub record AreBound (ss : List Statement) : Type 0 where
  pub bound : (k : ℕ) (s : Statement) → slice_get ss k ≡ Some s → IsBound (table_blocks ss) (2 + k) s
  pub side_by_side :
      (r s q b : ℕ) → r ≤ s → s ≤ q → block_at (slice_get (table_blocks ss) r) ≡ Some b
      → block_at (slice_get (table_blocks ss) q) ≡ Some b → block_at (slice_get (table_blocks ss) s) ≡ Some b

-- what the names of a scope stand for, its boundary and `halt` are rules of a table, and so is all that its rules call
pub record IsOver (R : List Core) (s : Scope) : Type 0 where
  pub names : (q : QName) → s.rule q < length R
  pub boundary : s.boundary < length R
  pub halt : halt_rule < length R
  pub rules : (r t : ℕ) (p : Core) → slice_get R r ≡ Some p → calls p t ≡ true → t < length R

-- each name that is said to make a tree is bound to a rule whose body is one
abbrev pub MakeTrees : List Core → (QName → Bool) → Scope → Type 0
MakeTrees R captures s =
    (q : QName) → captures q ≡ true → (label : List ℕ) × (p : Core) × (slice_get R (s.rule q) ≡ Some (Capture label p))

-- Three facts about a table that keeps its uses. They don't mention the steps in which the table grew.
use Rattle.std.specs.Prelude.{◌≡◌, ◌↔◌, ℕ, List, ◌++◌, Some, slice_get}
use Rattle.std.specs.List.{Contains}
use Rattle.rpl_intern.specs.Uses.{KeepsOnce}

-- the two lists have the same members
abbrev pub SameMembers : {A : Type 0} → List A → List A → Type 0
SameMembers {A = A} xs ys = (x : A) → Contains xs x ↔ Contains ys x

-- The table contains exactly what is used, and nothing twice. For each first part of the uses, some first part of the
-- table has the same members.
pub record IsOfUses {A : Type 0} (uses table : List A) : Type 0 where
  pub members : SameMembers uses table
  pub once : (i j : ℕ) (x : A) → slice_get table i ≡ Some x → slice_get table j ≡ Some x → i ≡ j
  pub order : (first later : List A) → uses ≡ first ++ later
      → (front back : List A) × (table ≡ front ++ back) × SameMembers first front

-- this is true of each table that keeps its uses once
abbrev pub TablesAreOfUses : Type 0 → Type 0
TablesAreOfUses A = (uses table : List A) → KeepsOnce uses table → IsOfUses uses table

-- the same uses have at most one such table
abbrev pub OneTable : Type 0 → Type 0
OneTable A = (uses t u : List A) → KeepsOnce uses t → KeepsOnce uses u → t ≡ u

-- How contracts see a table of rules.
use Rattle.std.specs.Prelude.{◌≡◌, ◌≢◌, ℕ, List, Option, Some, map, slice_get}
use Rattle.rpl_core.specs.Core.{Core}
use Rattle.rpl_core.specs.View.{core_of}
use Rattle.rpl_core.specs.declared.rules.Rule.{Rule}

-- the core of each rule's body: the table R of the definitions
abbrev pub bodies_of : List Rule → List Core
bodies_of = map (λ r. core_of r.body)

-- the full name of each rule
abbrev pub names_of : List Rule → List (List ℕ)
names_of = map (λ r. r.name)

-- the number of each rule's block, if it stands in one
abbrev pub blocks_of : List Rule → List (Option ℕ)
blocks_of = map (λ r. r.block)

-- no two of them are the same
abbrev pub AreDistinct : List (List ℕ) → Type 0
AreDistinct xs = (i j : ℕ) (x : List ℕ) → slice_get xs i ≡ Some x → slice_get xs j ≡ Some x → i ≡ j

-- none of them is this one
abbrev pub IsNew : List ℕ → List (List ℕ) → Type 0
IsNew x xs = (i : ℕ) → slice_get xs i ≢ Some x

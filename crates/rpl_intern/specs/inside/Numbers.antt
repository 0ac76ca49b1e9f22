-- The numbers of rows, from 0, as they are looked up.
use Rattle.std.specs.Prelude.{◌≡◌, ◌↔◌, ℕ, List, Some, Vec, slice_get}
use Rattle.std.specs.BTreeMap.{BTreeMap, get}
use Rattle.std.specs.declared.cmp.Ordering.{Ordering}
use Rattle.std.specs.Cmp.Lexicographic.{slice_cmp}

-- rows in order, piece by piece
abbrev pub row_cmp : {Z A : Type 0} → (A → A → Ordering) → Vec A Z → Vec A Z → Ordering
row_cmp cmp x y = slice_cmp cmp x.items y.items

-- a look-up comes to a number exactly where the row stands at it
abbrev pub IsNumbered : {Z A : Type 0} → (A → A → Ordering) → List (List A) → BTreeMap (Vec A Z) ℕ → Type 0
IsNumbered {Z} {A} cmp rows numbers =
    (v : Vec A Z) (k : ℕ) → (get (row_cmp cmp) numbers v ≡ Some k) ↔ (slice_get rows k ≡ Some v.items)

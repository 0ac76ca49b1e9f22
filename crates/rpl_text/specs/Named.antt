-- What has a name, and what is found by it.
use Rattle.std.specs.Prelude.{ℕ, List, [], ◌∷◌, Option, Some, None, if◌then◌else◌}
use Rattle.std.specs.Str.{bytes_eq}

-- the first of some things with this name
abbrev pub first_named : {A : Type 0} → (A → List ℕ) → List A → List ℕ → Option A
first_named name_of [] name = None
first_named name_of (k ∷ ks) name = if bytes_eq (name_of k) name then Some k else first_named name_of ks name

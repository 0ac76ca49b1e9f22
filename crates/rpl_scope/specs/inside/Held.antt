-- The names that a module holds.
use Rattle.std.specs.Prelude.{ℕ, ◌≡◌, ◌≤◌, ◌^◌, ◌⊎◌, List, [], ◌∷◌, ◌++◌, None, length}
use Rattle.std.specs.declared.rc.Rc.{Rc}
use Rattle.std.specs.List.{IsDistinct}
use Rattle.std.specs.Map.{keys_of}
use Rattle.std.specs.Str.{bytes_eq}
use Rattle.rpl_scope.specs.Packages.{first_of}
use Rattle.rpl_scope.specs.declared.module.Entry.{Entry}

-- those of the tables that it shares, in turn
abbrev pub held : {Z : Type 0} → List (Rc (List (List ℕ × Entry)) Z) → List (List ℕ × Entry)
held [] = []
held (names ∷ more) = names.value ++ held more

-- no name is among both
abbrev pub AreDisjoint : {A : Type 0} → List (List ℕ × A) → List (List ℕ × A) → Type 0
AreDisjoint ps qs = (n : List ℕ) → (first_of n ps ≡ None) ⊎ (first_of n qs ≡ None)

-- those that it shares and its own: no name is there twice, and all can be counted
pub record AreNames {Z : Type 0} (shared : List (Rc (List (List ℕ × Entry)) Z))
    (own : List (List ℕ × Entry)) : Type 0 where
  pub apart : IsDistinct bytes_eq (keys_of (held shared ++ own))
  pub few : length (held shared) ≤ 2 ^ 62

-- What a loading keeps, whatever comes of it: the modules that were there stay, and others may stand after them.
use Rattle.std.specs.Prelude.{◌≡◌, ◌≤◌, ℕ, zero, suc, List, [], ◌∷◌, length, take}
use Rattle.rpl_names.specs.Loading.{Stock}
use Rattle.rpl_scope.specs.Packages.{Module}

-- the second list begins with the first
abbrev pub BeginsWith : {A : Type 0} → List A → List A → Type 0
BeginsWith xs ys = (length xs ≤ length ys) × (take (length xs) ys ≡ xs)

pub record Keeps (a b : Stock) : Type 0 where
  pub modules : BeginsWith a.modules b.modules
  pub paths : BeginsWith a.paths b.paths
  pub labels : BeginsWith a.labels b.labels

-- ---- the way back

-- a module with the first k of its prefixes
abbrev pub shortened : ℕ → Module → Module
shortened k m = record {
  path = m.path;
  label = m.label;
  texts = m.texts;
  rules = m.rules;
  prefixes = take k m.prefixes;
  names = m.names;
}

abbrev pub with_shortened : (i k : ℕ) → List Module → List Module
with_shortened i k [] = []
with_shortened zero k (m ∷ ms) = shortened k m ∷ ms
with_shortened (suc i) k (m ∷ ms) = m ∷ with_shortened i k ms

-- Names that a module has taken in.
use Rattle.std.specs.Prelude.{◌≡◌, ◌⊎◌, ℕ, ◌||◌, List, [], ◌∷◌, Some, true, false, if◌then◌else◌, slice_get}
use Rattle.rpl_scope.specs.Imports.{is_same, numbered}
use Rattle.rpl_scope.specs.Packages.{Module, Rule, first_of}
use Rattle.rpl_scope.specs.declared.module.Entry.{Entry}
use Rattle.rpl_scope.specs.declared.module.Referent.TheVariants.{Of}

-- the name w stands for the rule k of the module i
abbrev pub StandsFor : (i k : ℕ) → List ℕ → Module → Type 0
StandsFor i k w m = (e : Entry) × (first_of w m.names ≡ Some e) × (is_same e.referent i k ≡ true)

-- where others see the name of this rule of the module i, it stands for that rule
abbrev pub HasName : ℕ → ℕ × Rule → Module → Type 0
HasName i r m = ((r.1.local || r.1.hidden) ≡ true) ⊎ StandsFor i r.0 r.1.name m

abbrev pub HasNames : ℕ → List (ℕ × Rule) → Module → Type 0
HasNames i [] m = Unit {0}
HasNames i (r ∷ rs) m = HasName i r m × HasNames i rs m

-- every name that others see of the module with the number j of these stands for its rule
abbrev pub HasAll : List Module → Module → ℕ → Type 0
HasAll ms m j = (from : Module) × (slice_get ms j ≡ Some from) × HasNames j (numbered 0 from.rules) m

-- each name of m stands for the same in n
abbrev pub Grows : Module → Module → Type 0
Grows m n = (w : List ℕ) (x : Entry) → first_of w m.names ≡ Some x → first_of w n.names ≡ Some x

-- ---- names that are taken in by a module without names, which has n rules

-- what stands under the name of the rule k of the module i
abbrev pub taken_entry : (n i k : ℕ) → Entry
taken_entry n i k = record { since = n; local = false; hidden = false; referent = Of i k }

-- the names of these rules of the module i
abbrev pub taken_names : (n i : ℕ) → List (ℕ × Rule) → List (List ℕ × Entry)
taken_names n i [] = []
taken_names n i (r ∷ rs) =
    if r.1.local || r.1.hidden then taken_names n i rs else (r.1.name, taken_entry n i r.0) ∷ taken_names n i rs

-- What the imports of a text bring into its module.
use Rattle.std.specs.Prelude.{ℕ, ◌+◌, Bool, false, ◌&&◌, ◌||◌, nat_eq, if◌then◌else◌, List, [], ◌∷◌, ◌++◌, length}
use Rattle.std.specs.Prelude.{Option, Some, None, Ok, slice_get}
use Rattle.rpl_syntax.specs.declared.module.Import.{Import}
use Rattle.rpl_syntax.specs.declared.module.ImportAs.{ImportAs}
use Rattle.rpl_syntax.specs.declared.module.ImportAs.TheVariants.{Last, Named, Plain}
use Rattle.rpl_scope.specs.Results.{Or, fault, in_turn}
use Rattle.rpl_scope.specs.Packages.{Rule, Module, first_of}
use Rattle.rpl_scope.specs.declared.fault.LoadKind.TheVariants.{Duplicate}
use Rattle.rpl_scope.specs.declared.module.Entry.{Entry}
use Rattle.rpl_scope.specs.declared.module.Prefix.{Prefix}
use Rattle.rpl_scope.specs.declared.module.Referent.{Referent}
use Rattle.rpl_scope.specs.declared.module.Referent.TheVariants.{Of}

-- The last part of a path, with [] for acc: what stands after its last slash, the path itself where it has none
-- (`LastPartsEnd` in Laws.antt). It is read from the front: acc stands after the last slash so far.
abbrev pub last_part : List ℕ → List ℕ → List ℕ
last_part acc [] = acc
last_part acc (c ∷ p) = if nat_eq c 47 then last_part [] p else last_part (acc ++ c ∷ []) p

-- ---- a prefix

abbrev pub with_prefix : Module → List ℕ → Prefix → Module
with_prefix m n p = record m { prefixes = m.prefixes ++ (n, p) ∷ [] }

abbrev pub add_prefix_at : Option Prefix → List ℕ → ℕ → List ℕ → ℕ → Module → Or Module
add_prefix_at None f at p i m = Ok (with_prefix m p (record { since = length m.rules; number = i }))
add_prefix_at (Some q) f at p i m = if nat_eq q.number i then Ok m else fault f at (Duplicate p)

-- the prefix p for the module with the number i
abbrev pub add_prefix : List ℕ → ℕ → List ℕ → ℕ → Module → Or Module
add_prefix f at p i m = add_prefix_at (first_of p m.prefixes) f at p i m

-- ---- plain names

abbrev pub with_name : Module → List ℕ → Entry → Module
with_name m n e = record m { names = m.names ++ (n, e) ∷ [] }

-- the same rule of the same module
abbrev pub is_same : Referent → (i k : ℕ) → Bool
is_same (Of m j) i k = nat_eq m i && nat_eq j k
is_same _ i k = false

abbrev pub add_name_at : Option Entry → List ℕ → ℕ → (i k : ℕ) → List ℕ → Module → Or Module
add_name_at None f at i k n m =
    Ok (with_name m n (record { since = length m.rules; local = false; hidden = false; referent = Of i k }))
add_name_at (Some e) f at i k n m = if is_same e.referent i k then Ok m else fault f at (Duplicate n)

-- the name of a rule of the module with the number i, where others see it
abbrev pub add_name : List ℕ → ℕ → ℕ → ℕ × Rule → Module → Or Module
add_name f at i r m =
    if r.1.local || r.1.hidden then Ok m else add_name_at (first_of r.1.name m.names) f at i r.0 r.1.name m

abbrev pub numbered : ℕ → List Rule → List (ℕ × Rule)
numbered k [] = []
numbered k (r ∷ rs) = (k, r) ∷ numbered (k + 1) rs

abbrev pub rules_at : Option Module → List Rule
rules_at None = []
rules_at (Some m) = m.rules

-- ---- an entry

abbrev pub take_as : List ℕ → Import → ImportAs → ℕ → List Module → Module → Or Module
take_as f i Last j ms m = add_prefix f i.at (last_part [] i.path) j m
take_as f i (Named p) j ms m = add_prefix f i.at p j m
take_as f i Plain j ms m = in_turn (add_name f i.at j) (numbered 0 (rules_at (slice_get ms j))) m

-- what the import i brings of the loaded module with the number j
abbrev pub take_in : List ℕ → Import → ℕ → List Module → Module → Or Module
take_in f i j ms m = take_as f i i.name j ms m

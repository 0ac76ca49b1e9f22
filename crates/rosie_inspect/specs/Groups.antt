-- The lines of names in groups: a group for each name of the top module, and one for all names under a prefix.
use Rattle.std.specs.Prelude.{ℕ, List, [], ◌∷◌, ◌++◌, map, Option, Some, None, String, Vec, IfSome, string_bytes}
use Rattle.std.specs.BTreeMap.{BTreeMap, get}
use Rattle.std.specs.List.Sorted.{IsPermutation}
use Rattle.std.specs.Ordering.{nat_cmp}
use Rattle.rpl_names.specs.Names.{offers}
use Rattle.rpl_names.specs.Roots.{Packages}
use Rattle.rosie_inspect.specs.Names.{name_line}
use Rattle.rosie_inspect.specs.declared.groups.Group.{Group}

-- the lines of the names that the module i offers
abbrev pub offered_lines : Packages → (i : ℕ) → List (List ℕ)
offered_lines p i = map name_line (offers p i)

abbrev pub lines_after : Packages → List ℕ → Option ℕ → List (List ℕ)
lines_after p text None = text ∷ []
lines_after p text (Some i) = map (λ l. text ++ l) (offered_lines p i)

abbrev pub group_lines : Packages → Group → List (List ℕ)
group_lines p g = lines_after p (string_bytes g.text) g.under

-- each of the modules has its lines, in some order
abbrev pub HoldsOffers : {Y Z : Type 0} → Packages → BTreeMap ℕ (Vec (String Z) Y) → Type 0
HoldsOffers p held =
    (i : ℕ) → IfSome (get nat_cmp held i) (λ v. IsPermutation (offered_lines p i) (map (λ l. string_bytes l) v.items))

-- What a pattern may name: the names of the top module, and after each of its prefixes those that an importer sees.
use Rattle.std.specs.Prelude.{◌≡◌, ℕ, List, [], ◌∷◌, ◌++◌, Option, Some, None, Result, Ok, Err, map, encode_utf8_all}
use Rattle.std.specs.Prelude.{IfSome, cond, slice_get}
use Rattle.std.specs.Cmp.Lexicographic.{slice_cmp}
use Rattle.std.specs.declared.cmp.Ordering.{Ordering}
use Rattle.std.specs.List.{flat_map}
use Rattle.std.specs.Ordering.{nat_cmp}
use Rattle.std.specs.Str.{bytes_eq}
use Rattle.rpl_text.specs.Options.{◌>>=◌}
use Rattle.rpl_syntax.specs.declared.name.QName.{QName}
use Rattle.rpl_scope.specs.Bodies.{written}
use Rattle.rpl_scope.specs.Packages.{Module, shared_of}
use Rattle.rpl_scope.specs.declared.module.Prefix.{Prefix}
use Rattle.rpl_scope.specs.declared.scope.Found.{Found}
use Rattle.rpl_names.specs.Roots.{Packages}
use Rattle.rpl_names.specs.Tables.{boundary_name}
use Rattle.rpl_names.specs.Targets.{head, resolved, target}
use Rattle.rpl_names.specs.declared.names.Listed.{Listed}
use Rattle.rpl_names.specs.declared.targets.NameFault.{NameFault}
use Rattle.rpl_names.specs.declared.targets.Target.{Target}

-- the names of a module, after a prefix or without one
abbrev pub names_of : Option (List ℕ) → Option Module → List QName
names_of p None = []
names_of p (Some m) = map (λ e. record { prefix = p; name = e.0; at = 0 }) m.names

-- the names of the top module, and those of the modules under its prefixes
abbrev pub known_in : List Module → Option Module → List QName
known_in ms None = []
known_in ms (Some m) =
    names_of None (Some m) ++ flat_map (λ e. names_of (Some e.0) (slice_get ms e.1.number)) m.prefixes

abbrev pub known : Packages → List QName
known p = known_in p.stock.modules (slice_get p.stock.modules p.top)

abbrev pub label : Packages → ℕ → Option (List ℕ)
label p n = head p n >>= λ h. cond h.captures (Some h.name) None

abbrev pub listed_by : Packages → QName → Result Target NameFault → List Listed
listed_by p q (Ok t) = record { name = written q.prefix q.name; label = label p t.rule } ∷ []
listed_by p q (Err f) = []

-- a name with its label, where it stands for a rule in the pattern; the boundary has a mark, and no name
abbrev pub listed : Packages → QName → List Listed
listed p q = cond (bytes_eq q.name boundary_name) [] (listed_by p q (resolved p None q))

abbrev pub all_listed : Packages → List Listed
all_listed p = flat_map (listed p) (known p)

-- by the names' bytes
abbrev pub by_bytes : Listed → Listed → Ordering
by_bytes a b = slice_cmp nat_cmp (encode_utf8_all a.name) (encode_utf8_all b.name)

-- ---- the same in parts

abbrev pub own_listed : Packages → List Listed
own_listed p = flat_map (listed p) (names_of None (slice_get p.stock.modules p.top))

abbrev pub prefixes_of : Option Module → List (List ℕ × Prefix)
prefixes_of None = []
prefixes_of (Some m) = m.prefixes

abbrev pub prefixes : Packages → List (List ℕ × Prefix)
prefixes p = prefixes_of (slice_get p.stock.modules p.top)

abbrev pub listed_under : Packages → List ℕ × Prefix → List Listed
listed_under p e = flat_map (listed p) (names_of (Some e.0) (slice_get p.stock.modules e.1.number))

-- a name without a prefix, and what importers of its module find under it
abbrev pub offered_as : Packages → List ℕ → Found → List Listed
offered_as p n f =
    cond (bytes_eq n boundary_name) []
    (listed_by p (record { prefix = None; name = n; at = 0 }) (target p.stock.modules p.top f))

abbrev pub offered_name : Packages → (i : ℕ) → List ℕ → List Listed
offered_name p i n = offered_as p n (shared_of i n (slice_get p.stock.modules i))

abbrev pub offered_in : Packages → (i : ℕ) → Option Module → List Listed
offered_in p i None = []
offered_in p i (Some m) = flat_map (λ e. offered_name p i e.0) m.names

-- the names that the module i offers to its importers
abbrev pub offers : Packages → (i : ℕ) → List Listed
offers p i = offered_in p i (slice_get p.stock.modules i)

abbrev pub after : List ℕ → Listed → Listed
after prefix l = record { name = written (Some prefix) l.name; label = l.label }

-- The prefix with the index k in the top module. If there is a number, the names under the prefix are those that the
-- module with this number offers.
pub record StandsUnder (p : Packages) (k : ℕ) (prefix : List ℕ) (number : Option ℕ) : Type 0 where
  pub entry : List ℕ × Prefix
  pub is : slice_get (prefixes p) k ≡ Some entry
  pub named : entry.0 ≡ prefix
  pub offered : IfSome number (λ i. listed_under p entry ≡ map (after prefix) (offers p i))

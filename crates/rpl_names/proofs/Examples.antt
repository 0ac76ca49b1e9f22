-- The loading computes.
use Rattle.std.proofs.Common.{◌≡◌, ℕ, List, [], ◌∷◌, Some, None, refl}
use Rattle.std.specs.Prelude.{true, false, Bool, Ok, Err, codes, length, Option, if◌then◌else◌, nat_eq}
use Rattle.rpl_syntax.specs.declared.name.QName.{QName}
use Rattle.rpl_syntax.specs.declared.module.Import.{Import}
use Rattle.rpl_syntax.specs.declared.module.ImportAs.TheVariants.{Last, Plain}
use Rattle.rpl_syntax.specs.Expression.{Expr, Text, Name}
use Rattle.rpl_syntax.specs.Modules as S
use Rattle.rpl_scope.specs.Faults.{Or, fault}
use Rattle.rpl_names.specs.Loading.{World, Stock}
use Rattle.rpl_names.specs.Patterns.{enter_pattern}
use Rattle.rpl_names.specs.Roots.{load, Packages, given_name}
use Rattle.rpl_names.specs.declared.roots.Root.{Root}
use Rattle.rpl_names.specs.declared.roots.Root.TheVariants.{File, Given}
use Rattle.rpl_scope.specs.declared.fault.LoadKind.TheVariants.{Duplicate, UnknownName, HiddenName, ImportCycle}
use Rattle.rpl_scope.specs.declared.fault.LoadKind.TheVariants.{TooManyPackages, RootMissing}

abbrev q : Option (List ℕ) → List ℕ → ℕ → QName
q p n at = record { prefix = p; name = n; at = at }

abbrev text : List Import → List S.Entry → S.ParsedModule
text is ts = record { name = None; imports = is; items = ts }

abbrev imp : List ℕ → ℕ → Import
imp p at = record { path = p; at = at; name = Last }

abbrev bind : Bool → List ℕ → ℕ → Expr → S.Rule
bind local n at e = record { name = n; at = at; local = local; alias = false; body = e }

abbrev name : List ℕ → ℕ → Expr
name n at = Name (q None n at)

-- a imports b, b imports c, c imports a; d has local x and visible y; e has a block and imports d plainly
abbrev texts : ℕ → S.ParsedModule
texts c =
    if nat_eq c 1 then text (imp (codes "b") 7 ∷ []) []
    else if nat_eq c 2 then text (imp (codes "c") 8 ∷ []) []
    else if nat_eq c 3 then text (imp (codes "a") 9 ∷ []) []
    else if nat_eq c 4 then text [] (S.One (bind true (codes "x") 0 (Text (97 ∷ [])))
    ∷ S.One (bind false (codes "y") 5 (name (codes "x") 9)) ∷ [])
    else if nat_eq c 5 then text (record { path = codes "d"; at = 3; name = Plain } ∷ [])
    (S.Block (bind false (codes "h") 10 (name (codes "v") 12) ∷ []) (bind false (codes "v") 20 (name (codes "y") 22)
    ∷ []) ∷ [])
    else if nat_eq c 6 then text [] (S.One (bind false (codes "x") 0 (Text []))
    ∷ S.One (bind false (codes "x") 8 (Text [])) ∷ [])
    else if nat_eq c 8 then text (record { path = codes "d"; at = 3; name = Plain } ∷ [])
    (S.One (bind false (codes "y") 30 (Text [])) ∷ [])
    else text [] (S.One (bind false (codes "y") 0 (name (codes "x") 4)) ∷ [])

abbrev first : List ℕ → ℕ
first [] = 0
first (c ∷ s) = c

abbrev with_most : ℕ → World
with_most n = record {
  tree = (codes "l/a.rpl", 1 ∷ []) ∷ (codes "l/b.rpl", 2 ∷ []) ∷ (codes "l/c.rpl", 3 ∷ []) ∷ (codes "l/d.rpl", 4 ∷ [])
      ∷ (codes "l/e.rpl", 5 ∷ []) ∷ [];
  folders = codes "l" ∷ [];
  most = n;
  text = λ f s. Ok (texts (first s));
}

abbrev given : ℕ → List Root
given c = Given (c ∷ []) ∷ []

abbrev loaded : World → List Root → Or Packages
loaded w rs = (load w rs).answer

-- a, b and c import one another
cycle : loaded (with_most 4) (given 1) ≡ fault (codes "l/a.rpl") 7 (ImportCycle (codes "b"))
unfolding lib.Utf8.encode
cycle = refl

-- with room for three modules the file of a isn't read
too_many : loaded (with_most 3) (given 1) ≡ fault (codes "l/c.rpl") 9 TooManyPackages
unfolding lib.Utf8.encode
too_many = refl

duplicate : loaded (with_most 4) (given 6) ≡ fault (given_name 1) 8 (Duplicate (codes "x"))
unfolding lib.Utf8.encode
duplicate = refl

unknown : loaded (with_most 4) (given 7) ≡ fault (given_name 1) 4 (UnknownName (codes "x"))
unfolding lib.Utf8.encode
unknown = refl

-- a plain name counts as the module's own
plain_twice : loaded (with_most 4) (given 8) ≡ fault (given_name 1) 30 (Duplicate (codes "y"))
unfolding lib.Utf8.encode
plain_twice = refl

missing : loaded (with_most 4) (File (codes "no.rpl") ∷ []) ≡ fault (codes "no.rpl") 0 RootMissing
unfolding lib.Utf8.encode
missing = refl

-- what a pattern finds after a root
abbrev after : Or Packages → Expr → Or Stock
after (Err f) e = Err f
after (Ok p) e = (enter_pattern (with_most 4) (codes "(pattern)") p.top p.stock e).answer

local_name : after (loaded (with_most 4) (given 5)) (Name (q (Some (codes "d")) (codes "x") 2))
    ≡ fault (codes "(pattern)") 2 (HiddenName (codes "d.x"))
unfolding lib.Utf8.encode
local_name = refl

hidden_rule : after (loaded (with_most 4) (given 5)) (name (codes "h") 0)
    ≡ fault (codes "(pattern)") 0 (HiddenName (codes "h"))
unfolding lib.Utf8.encode
hidden_rule = refl

abbrev modules_in : Or Stock → ℕ
modules_in (Ok s) = length s.modules
modules_in (Err f) = 0

imported : modules_in (after (loaded (with_most 4) []) (Name (q (Some (codes "d")) (codes "y") 0))) ≡ 2
unfolding lib.Utf8.encode
imported = refl

built_in : modules_in (after (loaded (with_most 4) (given 5)) (name (codes "halt") 0)) ≡ 2
unfolding lib.Utf8.encode
built_in = refl

-- the paths that are asked for, in order
asked : (load (with_most 4) (File (codes "no.rpl") ∷ [])).asked ≡ codes "no.rpl" ∷ []
unfolding lib.Utf8.encode
asked = refl

all_asked : (load (with_most 4) (given 1)).asked ≡ codes "l/b.rpl" ∷ codes "l/c.rpl" ∷ codes "l/a.rpl" ∷ []
unfolding lib.Utf8.encode
all_asked = refl

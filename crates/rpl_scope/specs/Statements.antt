-- The statements of one text, in order, and their first fault.
use Rattle.std.specs.Prelude.{ℕ, Ok, ◌+◌, Bool, true, false, List, [], ◌∷◌, ◌++◌, length, map, Option, Some, None}
use Rattle.std.specs.Prelude.{flat_map}
use Rattle.rpl_syntax.specs.Parsed as S
use Rattle.rpl_syntax.specs.declared.name.QName.{QName}
use Rattle.rpl_scope.specs.Bodies.{Use, names, uses, names_fault, macros_fault}
use Rattle.rpl_scope.specs.Results.{Or, fault, in_turn, ◌>>=◌, ◌orelse◌, unless}
use Rattle.rpl_scope.specs.Packages.{Rule, Module, first_of}
use Rattle.rpl_scope.specs.declared.fault.LoadFault.{LoadFault}
use Rattle.rpl_scope.specs.declared.fault.LoadKind.TheVariants.{Duplicate}
use Rattle.rpl_scope.specs.declared.module.Entry.{Entry}
use Rattle.rpl_scope.specs.declared.module.Referent.TheVariants.{Own}

-- ---- one rule more

abbrev pub entry_for : Rule → ℕ → Entry
entry_for r k = record { since = r.since; local = r.local; hidden = r.hidden; referent = Own k }

abbrev pub with_rule : Module → Rule → Module
with_rule m r =
    record m { rules = m.rules ++ r ∷ []; names = m.names ++ (r.name, entry_for r (length m.rules)) ∷ [] }

abbrev pub enter_at : Option Entry → List ℕ → Rule → Module → Or Module
enter_at None f r m = Ok (with_rule m r)
enter_at (Some e) f r m = fault f r.at (Duplicate r.name)

-- Duplicate, or the rule and its name at the end
abbrev pub enter : List ℕ → Rule → Module → Or Module
enter f r m = enter_at (first_of r.name m.names) f r m

abbrev pub enter_all : List ℕ → List Rule → Module → Or Module
enter_all f rs m = in_turn (enter f) rs m

-- ---- one statement

-- the rules of a statement of the text k that starts where a module has n rules
abbrev pub rule_of : (k start since : ℕ) → (hidden : Bool) → S.Rule → Rule
rule_of k start since hidden b =
    record {
      name = b.name;
      text = k;
      at = b.at;
      start = start;
      since = since;
      local = b.local;
      alias = b.alias;
      hidden = hidden;
      body = b.body;
    }

abbrev pub block_rules : (k start : ℕ) → (hidden : Bool) → List S.Rule → List Rule
block_rules k start hidden = map (rule_of k start start hidden)

abbrev pub rules_of : (k n : ℕ) → S.Entry → List Rule
rules_of k n (S.One b) = rule_of k n (n + 1) false b ∷ []
rules_of k n (S.Block h v) = block_rules k n true h ++ block_rules k n false v

abbrev pub names_of : List S.Rule → List QName
names_of = flat_map (λ b. names b.body)

abbrev pub uses_of : List S.Rule → List Use
uses_of = flat_map (λ b. uses b.body)

-- the bindings of a statement
abbrev pub bindings_of : S.Entry → List S.Rule
bindings_of (S.One b) = b ∷ []
bindings_of (S.Block h v) = h ++ v

-- the first fault of names, and then of macros, of a statement that starts where its module has n rules
abbrev pub bodies_fault : List ℕ → List Module → ℕ → List S.Rule → Module → Option LoadFault
bodies_fault f ms n bs m = names_fault f ms m n (names_of bs) orelse macros_fault f (uses_of bs)

-- all its rules are entered; then come its names, and then its macros
abbrev pub statement : List ℕ → ℕ → List Module → S.Entry → Module → Or Module
statement f k ms i m =
    let n = length m.rules in
    enter_all f (rules_of k n i) m >>= λ m1. unless (bodies_fault f ms n (bindings_of i) m1) m1

abbrev pub statements : List ℕ → ℕ → List Module → List S.Entry → Module → Or Module
statements f k ms is m = in_turn (statement f k ms) is m

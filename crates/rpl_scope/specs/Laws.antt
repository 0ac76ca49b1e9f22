-- What names stand for, said of the statements themselves: what the numbers `start` and `since` mean. And what the
-- last part of a path is.
use Rattle.std.specs.Prelude.{◌≡◌, ◌↔◌, ◌⊎◌, ℕ, ◌+◌, List, [], ◌∷◌, ◌++◌, length, if◌then◌else◌, Some, None, Ok}
use Rattle.std.specs.Prelude.{slice_get}
use Rattle.rpl_syntax.specs.Parsed as S
use Rattle.rpl_scope.specs.Imports.{last_part}
use Rattle.rpl_scope.specs.Packages.{Rule, Module, first_of, halt_or, plain, shared}
use Rattle.rpl_scope.specs.Statements.{bindings_of, rules_of, statements}
use Rattle.rpl_scope.specs.declared.module.Referent.{Referent}
use Rattle.rpl_scope.specs.declared.module.Referent.TheVariants.{Own, Of}
use Rattle.rpl_scope.specs.declared.scope.Found.{Found}
use Rattle.rpl_scope.specs.declared.scope.Found.TheVariants.{To, Unknown, Hidden}

-- ---- which bindings are seen

-- the bindings of a statement that all statements after it see
abbrev pub lasting : S.Entry → List S.Rule
lasting (S.One b) = b ∷ []
lasting (S.Block h v) = v

-- the hidden ones, which are seen in their block alone
abbrev pub passing : S.Entry → List S.Rule
passing (S.One b) = []
passing (S.Block h v) = h

-- the ones that it sees itself: a block all of its own, a binding alone not even itself
abbrev pub inner : S.Entry → List S.Rule
inner (S.One b) = []
inner (S.Block h v) = h ++ v

-- those of some bindings that are not local, and those that are
abbrev pub public : List S.Rule → List S.Rule
public [] = []
public (b ∷ bs) = if b.local then public bs else b ∷ public bs

abbrev pub locals : List S.Rule → List S.Rule
locals [] = []
locals (b ∷ bs) = if b.local then b ∷ locals bs else locals bs

-- the bindings of a statement that importers see, and those that are hidden from them
abbrev pub shown : S.Entry → List S.Rule
shown e = public (lasting e)

abbrev pub withheld : S.Entry → List S.Rule
withheld e = locals (lasting e) ++ passing e

-- these bindings of all statements, in their order
abbrev pub of_all : (S.Entry → List S.Rule) → List S.Entry → List S.Rule
of_all of [] = []
of_all of (e ∷ es) = of e ++ of_all of es

-- ---- what a name stands for

-- one of the bindings has this name
abbrev pub Binds : List S.Rule → List ℕ → Type 0
Binds [] n = ⊥
Binds (b ∷ bs) n = (b.name ≡ n) ⊎ Binds bs n

-- it is a rule of the module with this name, and is referred to so
abbrev pub IsRuleOf : Module → (ℕ → Referent) → List ℕ → Found → Type 0
IsRuleOf m to n x = (k : ℕ) × (r : Rule) × (slice_get m.rules k ≡ Some r) × (r.name ≡ n) × (x ≡ To (to k))

-- What the name n of the module m stands for where these bindings are seen and those hidden: the rule of one that is
-- seen, nothing if a hidden one has the name, and something else if none has it.
pub record StandsFor (m : Module) (to : ℕ → Referent) (seen hidden : List S.Rule) (n : List ℕ) (otherwise x : Found)
    : Type 0 where
  pub bound : Binds seen n → IsRuleOf m to n x
  pub shut : Binds hidden n → x ≡ Hidden
  pub unbound : (Binds seen n → ⊥) → (Binds hidden n → ⊥) → x ≡ otherwise

-- A statement e, with a binding, comes after some others of its text, and further ones come after it. Then a name n
-- that the module did not have before the text stands in e for what the bindings say: the lasting ones before e and
-- its own inner ones are seen, the passing ones before e are hidden, and the others might as well not be there.
abbrev pub StatementsSee : Type 0
StatementsSee =
    (f : List ℕ) (k : ℕ) (ms : List Module) (m m1 m2 : Module) (before after : List S.Entry) (e : S.Entry)
    (n : List ℕ) → statements f k ms before m ≡ Ok m1 → statements f k ms (e ∷ after) m1 ≡ Ok m2
    → (bindings_of e ≡ [] → ⊥) → first_of n m.names ≡ None
    → StandsFor m2 Own (of_all lasting before ++ inner e) (of_all passing before) n (halt_or n Unknown)
    (plain n (length m1.rules) (first_of n m2.names))

-- so it is after all statements, where a pattern stands: it sees the lasting bindings of all of them
abbrev pub PatternsSee : Type 0
PatternsSee =
    (f : List ℕ) (k : ℕ) (ms : List Module) (m m1 : Module) (es : List S.Entry) (n : List ℕ)
    → statements f k ms es m ≡ Ok m1 → first_of n m.names ≡ None
    → StandsFor m1 Own (of_all lasting es) (of_all passing es) n (halt_or n Unknown)
    (plain n (length m1.rules) (first_of n m1.names))

-- and by a prefix, those who import the module i see the shown ones, and the withheld ones are hidden from them
abbrev pub ImportersSee : Type 0
ImportersSee =
    (f : List ℕ) (k : ℕ) (ms : List Module) (m m1 : Module) (es : List S.Entry) (n : List ℕ) (i : ℕ)
    → statements f k ms es m ≡ Ok m1 → first_of n m.names ≡ None
    → StandsFor m1 (Of i) (of_all shown es) (of_all withheld es) n Unknown (shared i (first_of n m1.names))

-- ---- the numbers

-- the rules of some statements of the text k, before which a module has n rules
abbrev pub laid : (k n : ℕ) → List S.Entry → List Rule
laid k n [] = []
laid k n (e ∷ es) = rules_of k n e ++ laid k (n + length (rules_of k n e)) es

-- the rules come in the order of the statements; the start of each is how many rules come before its statement
abbrev pub RulesAreLaid : Type 0
RulesAreLaid =
    (f : List ℕ) (k : ℕ) (ms : List Module) (m m1 : Module) (es : List S.Entry) → statements f k ms es m ≡ Ok m1
    → m1.rules ≡ m.rules ++ laid k (length m.rules) es

-- ---- paths

abbrev pub HasNoSlash : List ℕ → Type 0
HasNoSlash [] = Unit {0}
HasNoSlash (c ∷ p) = (c ≡ 47 → ⊥) × HasNoSlash p

-- it has no slash, and is the path itself or stands after a slash at its end
abbrev pub EndsPath : (path part : List ℕ) → Type 0
EndsPath path part = HasNoSlash part × ((path ≡ part) ⊎ ((front : List ℕ) × (path ≡ front ++ 47 ∷ part)))

-- the last part of a path is that, and nothing else is
abbrev pub LastPartsEnd : Type 0
LastPartsEnd = (path part : List ℕ) → (part ≡ last_part [] path) ↔ EndsPath path part

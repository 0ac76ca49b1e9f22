-- What holds of every set of packages that is loaded, from real files too.
use Rattle.std.specs.Prelude.{◌≡◌, ◌<◌, ◌+◌, ℕ, Bool, true, List, length, Option, Some, None, Result, Ok, map}
use Rattle.std.specs.Prelude.{IsUtf8, slice_get}
use Rattle.std.specs.List.{All, Contains}
use Rattle.rpl_core.specs.Core.{Core, Capture}
use Rattle.rpl_core.specs.Order.{IsInOrder}
use Rattle.rpl_core.specs.Table.{AreDistinct, bodies_of, blocks_of}
use Rattle.rpl_core.specs.declared.rules.Rule.{Rule}
use Rattle.rpl_forms.specs.Inlining.{Inners}
use Rattle.rpl_forms.specs.Rows.{rows_of, inners_of}
use Rattle.rpl_expand.specs.Expansion.{core}
use Rattle.rpl_expand.specs.Laws.{HasParts}
use Rattle.rpl_expand.specs.Sets.{goal_of, makes_tree, scope_of, statement_at, statements, table_of}
use Rattle.rpl_expand.specs.Table.{Statement}
use Rattle.rpl_expand.specs.Bound.{AreBound, IsOver, MakeTrees}
use Rattle.rpl_macro.specs.Kinds.{kind_of}
use Rattle.rpl_macro.specs.Macros.{applied_if}
use Rattle.rpl_macro.specs.declared.casing.Casing.{Casing}
use Rattle.rpl_syntax.specs.Expression.{Expr, Macro}
use Rattle.rpl_syntax.specs.declared.name.QName.{QName}
use Rattle.rpl_scope.specs.Bodies.{names}
use Rattle.rpl_scope.specs.Faults.{Or}
use Rattle.rpl_scope.specs.Packages.{Module}
use Rattle.rpl_names.specs.Goals.{ReadsGoal}
use Rattle.rpl_names.specs.Loading.{Stock, walk, world}
use Rattle.rpl_names.specs.Names.{all_listed}
use Rattle.rpl_names.specs.Owned.{own}
use Rattle.rpl_names.specs.Patterns.{HasNoFault, load_pattern}
use Rattle.rpl_names.specs.Roots.{Packages, load}
use Rattle.rpl_names.specs.Tables.{rows}
use Rattle.rpl_names.specs.Targets.{body, resolved}
use Rattle.rpl_names.specs.declared.roots.Root.{Root}
use Rattle.rpl_names.specs.declared.targets.NameFault.{NameFault}
use Rattle.rpl_names.specs.declared.stock.Head.{Head}
use Rattle.rpl_names.specs.declared.targets.Target.{Target}
use Rattle.rpl_names.specs.Built.{IsBuilt, IsGoal}
use Rattle.rpl_expand.specs.Fitting.{FitsExpr, FitsStatement}

-- ---- loaded sets

-- With these files and library folders, the set is the result of loading some roots, or of loading a pattern over such
-- a set.
pub data IsLoaded (tree : List (List ℕ × List ℕ)) (folders : List (List ℕ)) : Packages → Type 0 where
  by_roots : (roots : List Root) (p : Packages) → (load (world tree folders) roots).answer ≡ Ok p
      → IsLoaded tree folders p
  by_pattern : (p q : Packages) (fixed find : Bool) (text : List ℕ) (read : Or Expr) (e : Expr)
      → ReadsGoal fixed find text read → IsLoaded tree folders p
      → (load_pattern (world tree folders) p read).answer ≡ Ok (e, q) → IsLoaded tree folders q

-- all of these are built
abbrev pub ToldIsBuilt : Type 0
ToldIsBuilt =
    (tree : List (List ℕ × List ℕ)) (folders : List (List ℕ)) (p : Packages) → IsLoaded tree folders p → IsBuilt p

-- the property holds for every set that is built, whatever the files were
abbrev pub OfAllBuilt : (Packages → Type 0) → Type 0
OfAllBuilt P = (p : Packages) → IsBuilt p → P p

-- ---- the order of statements

-- each name of a statement is bound to an earlier rule or to one of its block, the boundary in force is an earlier
-- rule, and the rules of a block stand side by side
abbrev pub LoadedIsBound : Type 0
LoadedIsBound = OfAllBuilt (λ p. AreBound (statements p))

-- ---- what names stand for

abbrev pub IsFound : Result Target NameFault → Type 0
IsFound r = (t : Target) × (r ≡ Ok t)

-- each name that a statement says stands for a rule
abbrev pub StatementsResolve : Type 0
StatementsResolve =
    OfAllBuilt (λ p. (n : ℕ) (e : Expr) (q : QName) → body p n ≡ Some e → Contains (names e) q
    → IsFound (resolved p (Some n) q))

-- each name of the pattern e stands for a rule
abbrev pub Resolves : Expr → Packages → Type 0
Resolves e p = (q : QName) → Contains (names e) q → IsFound (resolved p None q)

-- so it is of each pattern with which nothing is wrong
abbrev pub PatternsResolve : Type 0
PatternsResolve = OfAllBuilt (λ p. (e : Expr) → HasNoFault e p → Resolves e p)

-- ---- what the expansion asks of its scopes

-- these rules are those of the table of the set
abbrev pub AreRulesOf : List Rule → Packages → Type 0
AreRulesOf rs p = rows_of rs ≡ table_of p

-- the table is in order: a rule calls no later one but those of its block
abbrev pub TablesAreInOrder : Type 0
TablesAreInOrder = OfAllBuilt (λ p. (rs : List Rule) → AreRulesOf rs p → IsInOrder (bodies_of rs) (blocks_of rs))

-- the scopes of statements, and with None that of the pattern, are over the rules of the table
abbrev pub ScopesAreOver : Type 0
ScopesAreOver =
    OfAllBuilt (λ p. (rs : List Rule) (n : Option ℕ) → AreRulesOf rs p
    → IsOver (bodies_of rs) (scope_of p n (inners_of rs)))

-- a name in the statement of a rule, or with None in the pattern, that is said to make a tree is bound to a rule whose
-- body is a capture
abbrev pub TreesAreMade : Type 0
TreesAreMade =
    OfAllBuilt (λ p. (rs : List Rule) (n : Option ℕ) → AreRulesOf rs p
    → MakeTrees (bodies_of rs) (λ q. makes_tree (resolved p n q)) (scope_of p n (inners_of rs)))

-- the target is a rule of the table of these bodies, and its body is a capture where it is said to make a tree
pub record IsRuleOf (R : List Core) (t : Target) : Type 0 where
  pub within : t.rule < length R
  pub captures : t.captures ≡ true → (label : List ℕ) × (p : Core) × (slice_get R t.rule ≡ Some (Capture label p))

-- the target of each name that a statement of a module binds is such a rule
abbrev pub OwnNamesAreRules : Type 0
OwnNamesAreRules =
    OfAllBuilt (λ p. (rs : List Rule) (i : ℕ) (n : List ℕ) (t : Target) → AreRulesOf rs p → own p i n ≡ Some t
    → IsRuleOf (bodies_of rs) t)

-- ---- the parts of choices

-- every choice in the core of a rule of the table has a part
abbrev pub TablesHaveParts : Type 0
TablesHaveParts = OfAllBuilt (λ p. All (λ r. HasParts r.body) (table_of p))

-- and so has every choice in the core of a pattern that was read
abbrev pub GoalsHaveParts : Type 0
GoalsHaveParts =
    OfAllBuilt (λ p. (rs : List Rule) (e : Expr) → AreRulesOf rs p → IsGoal e → HasParts (goal_of p (inners_of rs) e))

-- ---- what can be written down

-- the texts of every statement of a set are no longer than a text that is read, and its classes are sets
abbrev pub StatementsFit : Type 0
StatementsFit = OfAllBuilt (λ p. All FitsStatement (statements p))

-- and so it is with every pattern that a text is read as
abbrev pub PatternsFit : Type 0
PatternsFit =
    (fixed find : Bool) (text : List ℕ) (e : Expr) → IsUtf8 text → ReadsGoal fixed find text (Ok e) → FitsExpr e

-- ---- macros

-- an expression stands there: in the statement of this rule, or with None in the pattern
abbrev pub HasText : Packages → Option ℕ → Type 0
HasText p None = Unit {0}
HasText p (Some n) = (e : Expr) × (body p n ≡ Some e)

-- Wherever a macro occurs in a set, its core is that of the expression that its equation builds from its argument, even
-- if that expression contains the name `halt` that `error` uses.
abbrev pub MacrosAreEquations : Type 0
MacrosAreEquations =
    OfAllBuilt (λ p. (n : Option ℕ) (I : Inners) (c : Casing) (q : QName) (e : Expr) → HasText p n
    → core c (scope_of p n I) (Macro q e) ≡ core c (scope_of p n I) (applied_if (kind_of q.name) e))

-- ---- what the definitions look for is there

-- the module that the pattern's names are looked up in
abbrev pub TopIsThere : Type 0
TopIsThere = OfAllBuilt (λ p. p.top < length p.stock.modules)

-- the statement of each rule of the table but the two built-in ones
abbrev pub RulesHaveStatements : Type 0
RulesHaveStatements =
    OfAllBuilt (λ p. (n : ℕ) → n < length (rows p.stock.modules) → (s : Statement) × (statement_at p (2 + n) ≡ Some s))

-- Where a file is walked, fewer modules are loaded and being loaded than there may be. So the bound on files that are
-- read one inside the other is never met: with a larger one the walk is the same.
abbrev pub WalksAreWhole : Type 0
WalksAreWhole =
    (tree : List (List ℕ × List ℕ)) (folders : List (List ℕ)) (k : ℕ) (s : Stock) (hs : List Head)
    (file path bytes : List ℕ) → length s.modules + length hs < (world tree folders).most
    → walk (world tree folders) (k + (world tree folders).most) s hs file path bytes
    ≡ walk (world tree folders) (world tree folders).most s hs file path bytes

-- ---- names of rules

-- no two rules of one of these modules have one name
abbrev pub RulesAreDistinct : List Module → Type 0
RulesAreDistinct ms = (i : ℕ) (m : Module) → slice_get ms i ≡ Some m → AreDistinct (map (λ r. r.name) m.rules)

-- in a set no two rules of a module have one name, and no two modules have one package name
abbrev pub ModulesAreApart : Type 0
ModulesAreApart =
    OfAllBuilt (λ p. RulesAreDistinct p.stock.modules × AreDistinct (map (λ m. m.label) p.stock.modules))

-- so no two rules of its table, the built-in ones among them, have one full name
abbrev pub TableIsDistinct : Type 0
TableIsDistinct = OfAllBuilt (λ p. AreDistinct (map (λ r. r.name) (table_of p)))

-- and no name is listed twice among those that a pattern may use
abbrev pub NoNameTwice : Type 0
NoNameTwice = OfAllBuilt (λ p. AreDistinct (map (λ l. l.name) (all_listed p)))

-- none of these names contains a space or a character that sorts before it
abbrev pub NoNameHasASpace : Type 0
NoNameHasASpace =
    OfAllBuilt (λ p. (n : List ℕ) (c : ℕ) → Contains (map (λ l. l.name) (all_listed p)) n → Contains n c → 32 < c)

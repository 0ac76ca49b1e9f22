-- How packages are built, whatever the files are that were read: modules come of texts, step by step.
use Rattle.std.specs.Prelude.{◌≡◌, ◌⊎◌, ℕ, Bool, false, List, [], ◌∷◌, ◌++◌, length, Option, Some, None, Ok, slice_get}
use Rattle.std.specs.List.{Contains}
use Rattle.rpl_syntax.specs.Expression.{Expr}
use Rattle.rpl_syntax.specs.Modules.{ParsedModule}
use Rattle.rpl_syntax.specs.declared.module.Import.{Import}
use Rattle.rpl_syntax.specs.declared.module.ImportAs.TheVariants.{Last}
use Rattle.rpl_syntax.specs.declared.name.QName.{QName}
use Rattle.rpl_scope.specs.Bodies.{names}
use Rattle.rpl_scope.specs.Imports.{take_in, with_prefix}
use Rattle.rpl_scope.specs.Packages.{Module, first_of}
use Rattle.rpl_scope.specs.Statements.{statements}
use Rattle.rpl_names.specs.Goals.{ReadsGoal}
use Rattle.rpl_names.specs.Loading.{Stock, State, empty_module, finished, is_taken, label_of, taken_up, with_text}
use Rattle.rpl_names.specs.Patterns.{put_by}
use Rattle.rpl_names.specs.Roots.{Packages, begun, top_head}
use Rattle.rpl_names.specs.Texts.{module_text}
use Rattle.rpl_names.specs.declared.stock.Head.{Head}

-- some text was read so
pub record IsSaid (t : ParsedModule) : Type 0 where
  pub file : List ℕ
  pub bytes : List ℕ
  pub read : module_text file bytes ≡ Ok t

-- some text was read as this pattern
pub record IsGoal (e : Expr) : Type 0 where
  pub fixed : Bool
  pub find : Bool
  pub text : List ℕ
  pub read : ReadsGoal fixed find text (Ok e)

-- the name stands in a pattern that was read
pub record InGoal (q : QName) : Type 0 where
  pub goal : Expr
  pub read : IsGoal goal
  pub stands : Contains (names goal) q

-- the import stands in a text that was read; or a name of a pattern has its path as a prefix, and its names are then
-- seen under the last name of the path
pub data IsAsked (i : Import) : Type 0 where
  by_text : (t : ParsedModule) → IsSaid t → Contains t.imports i → IsAsked i
  by_goal : (q : QName) → InGoal q → q.prefix ≡ Some i.path → i.name ≡ Last → IsAsked i

-- a module of its own, before anything of its text
abbrev pub opened : Stock → Option (List ℕ) → List ℕ → State
opened s path label = record { stock = s; own = empty_module path label }

abbrev pub headed : List Head → Option (List ℕ) → List ℕ → List Head
headed hs path label = hs ++ record { path = path; label = label } ∷ []

-- While the modules of these heads are being loaded, the second state comes of the first: nothing is done; or one thing
-- after the other; the module at work has a text more, or its statements; it imports a module that is there, or one
-- that is loaded for it; or a root's own module is loaded, which becomes a prefix.
pub data Becomes : List Head → State → State → Type 0 where
  same : (hs : List Head) (s : State) → Becomes hs s s
  on : (hs : List Head) (s t u : State) → Becomes hs s t → Becomes hs t u → Becomes hs s u
  text : (hs : List Head) (s : State) (f : List ℕ)
      → Becomes hs s (record { stock = s.stock; own = with_text s.own f })
  said : (hs : List Head) (s : State) (f : List ℕ) (k : ℕ) (t : ParsedModule) (m : Module) → IsSaid t
      → statements f k s.stock.modules t.items s.own ≡ Ok m → Becomes hs s (record { stock = s.stock; own = m })
  again : (hs : List Head) (s : State) (f : List ℕ) (i : Import) (j : ℕ) (m : Module) → IsAsked i
      → first_of i.path s.stock.paths ≡ Some j → take_in f i j s.stock.modules s.own ≡ Ok m
      → Becomes hs s (record { stock = s.stock; own = m })
  imported : (hs : List Head) (s u : State) (f : List ℕ) (i : Import) (t : ParsedModule) (m : Module) → IsAsked i
      → IsSaid t → is_taken (label_of t.name i.path) hs s.stock ≡ false
      → Becomes (headed hs (Some i.path) (label_of t.name i.path))
      (opened s.stock (Some i.path) (label_of t.name i.path)) u
      → take_in f i (length u.stock.modules) (finished u.stock u.own).modules s.own ≡ Ok m
      → Becomes hs s (record { stock = finished u.stock u.own; own = m })
  rooted : (hs : List Head) (s u : State) (t : ParsedModule) (q : QName) → IsSaid t → t.name ≡ Some q
      → first_of q.name s.own.prefixes ≡ None → is_taken q.name hs s.stock ≡ false
      → Becomes (headed hs None q.name) (opened s.stock None q.name) u
      → Becomes hs s (record {
        stock = finished u.stock u.own;
        own = with_prefix s.own q.name (record { since = length s.own.rules; number = length u.stock.modules });
      })

-- a module of this path and package name, whose name was free, came to this
pub record Makes (hs : List Head) (path : Option (List ℕ)) (label : List ℕ) (s : Stock) (u : State) : Type 0 where
  pub free : is_taken label hs s ≡ false
  pub comes : Becomes (headed hs path label) (opened s path label) u

-- and it is that of an imported text
pub record Loads (hs : List Head) (path : List ℕ) (s : Stock) (u : State) : Type 0 where
  pub text : ParsedModule
  pub said : IsSaid text
  pub makes : Makes hs (Some path) (label_of text.name path) s u

-- the module of this path was there, or is loaded now: its number, and the modules with it
abbrev pub Reaches : List Head → List ℕ → Stock → ℕ × Stock → Type 0
Reaches hs path s r =
    ((first_of path s.paths ≡ Some r.0) × (r.1 ≡ s)) ⊎ ((u : State) × Loads hs path s u × (r ≡ taken_up u))

abbrev pub packages : Stock → ℕ → List (Option ℕ) → Packages
packages s i rs = record { stock = s; top = i; roots = rs }

-- The set came of roots, whose last step finishes the top module; or of a set to which the name of a pattern brings the
-- module of its prefix.
pub data IsBuilt : Packages → Type 0 where
  by_roots : (s : State) (rs : List (Option ℕ)) → Becomes (top_head ∷ []) begun.state s
      → IsBuilt (packages (finished s.stock s.own) (length s.stock.modules) rs)
  by_name : (s t : Stock) (i : ℕ) (rs : List (Option ℕ)) (f : List ℕ) (e : Import) (r : ℕ × Stock)
      → IsBuilt (packages s i rs) → IsAsked e → Reaches [] e.path s r
      → put_by f e r.0 i r.1 (slice_get r.1.modules i) ≡ Ok t → IsBuilt (packages t i rs)

-- packages with these modules, whose top module has the number i, are still built with those
abbrev pub StaysBuilt : ℕ → Stock → Stock → Type 0
StaysBuilt i s t = (rs : List (Option ℕ)) → IsBuilt (packages s i rs) → IsBuilt (packages t i rs)

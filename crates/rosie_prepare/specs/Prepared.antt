-- From roots and a pattern to what is run, or to the line of the first fault, in three passes: everything is loaded,
-- then expanded, then checked.
use Rattle.std.specs.Prelude.{◌≡◌, ℕ, Bool, List, [], map, Option, Some, None, Result, Ok, Err, encode_utf8_all}
use Rattle.std.specs.Option.{option_or}
use Rattle.rosie_prepare.specs.Lines.{Line, check_line, expand_line, load_line}
use Rattle.rpl_check.specs.Blocks.{first_fault}
use Rattle.rpl_facts.specs.Facts.{Facts}
use Rattle.rpl_check.specs.Faults as C
use Rattle.rpl_core.specs.Core.{Core}
use Rattle.rpl_expand.specs.Faults as E
use Rattle.rpl_expand.specs.Sets.{goal_of, table_of}
use Rattle.rpl_forms.specs.Table.{Row, inners_from}
use Rattle.rpl_names.specs.Steps.{Outcome, and_then}
use Rattle.rpl_names.specs.Goals.{ReadsGoal}
use Rattle.rpl_names.specs.Loading.{world}
use Rattle.rpl_names.specs.Patterns.{load_pattern}
use Rattle.rpl_names.specs.Roots.{Packages, load}
use Rattle.rpl_names.specs.declared.roots.Root.{Root}
use Rattle.rpl_scope.specs.Results.{Or}
use Rattle.rpl_syntax.specs.Expression.{Expr}

-- ---- what is asked for, and what comes of it

-- the files with their bytes
abbrev pub Tree : Type 0
Tree = List (List ℕ × List ℕ)

-- roots and the folders of the library path, and the bytes of a pattern, which may be a literal, and may be looked for
-- wherever it stands
pub record PatternRequest : Type 0 where
  pub roots : List Root
  pub folders : List (List ℕ)
  pub text : List ℕ
  pub fixed : Bool
  pub find : Bool

-- the packages with the pattern's expression, the rule table, and the pattern's core
pub record Ready : Type 0 where
  pub packages : Packages
  pub expr : Expr
  pub rules : List Row
  pub goal : Core

-- what is made, or the line that says why it isn't
abbrev pub OrLine : Type 0 → Type 0
OrLine A = Result A Line

-- ---- the first pass

-- the text of the pattern is read as `parse`
abbrev pub IsReadAs : PatternRequest → (parse : Or Expr) → Type 0
IsReadAs w parse = ReadsGoal w.fixed w.find w.text parse

-- all roots, then the pattern
abbrev pub roots_then_pattern : Tree → PatternRequest → (parse : Or Expr) → Outcome (Expr × Packages)
roots_then_pattern tree w parse =
    and_then (load (world tree w.folders) w.roots) (λ p. load_pattern (world tree w.folders) p parse)

-- ---- the second and the third pass

abbrev pub bodies : List Row → List Core
bodies = map (λ r. r.body)

abbrev pub blocks : List Row → List (Option ℕ)
blocks = map (λ r. r.block)

-- the static facts of the rule table
abbrev pub TableFacts : Packages → Type 0
TableFacts p = Facts (bodies (table_of p))

abbrev pub unless_faulty : {A : Type 0} → Packages → A → Option C.Fault → OrLine A
unless_faulty p a None = Ok a
unless_faulty p a (Some f) = Err (check_line p f)

-- The result for a set of packages: the line for what is too large, if something is; otherwise the line for what the
-- check finds under the static facts of the table; and a, if there is neither.
abbrev pub Passes :
    {A : Type 0} → (p : Packages) → Option E.Fault → (TableFacts p → Option C.Fault) → A → OrLine A → Type 0
Passes p (Some f) fault a r = r ≡ Err (expand_line p f)
Passes p None fault a r = (d : TableFacts p) × (r ≡ unless_faulty p a (fault d))

-- ---- roots alone

abbrev pub table_too_large : Packages → Option E.Fault
table_too_large p = E.table_fault 0 (table_of p)

abbrev pub table_unsound : (p : Packages) → TableFacts p → Option C.Fault
table_unsound p d = first_fault d (blocks (table_of p))

abbrev pub TablePasses : Or Packages → OrLine Packages → Type 0
TablePasses (Err f) r = r ≡ Err (load_line f)
TablePasses (Ok p) r = Passes p (table_too_large p) (table_unsound p) p r

-- ---- roots and a pattern: all faults of the table come before those of the pattern

abbrev pub goal_in : Packages → Expr → Core
goal_in p e = goal_of p (inners_from [] (table_of p)) e

abbrev pub too_large : Packages → Expr → Option E.Fault
too_large p e = option_or (table_too_large p) (E.size_fault None (goal_in p e))

abbrev pub unsound : (p : Packages) → Expr → TableFacts p → Option C.Fault
unsound p e d = option_or (table_unsound p d) (C.goal_fault d.empties d.halting (goal_in p e))

abbrev pub ready : Packages → Expr → Ready
ready p e = record { packages = p; expr = e; rules = table_of p; goal = goal_in p e }

abbrev pub GoalPasses : Or (Expr × Packages) → OrLine Ready → Type 0
GoalPasses (Err f) r = r ≡ Err (load_line f)
GoalPasses (Ok l) r = Passes l.1 (too_large l.1 l.0) (unsound l.1 l.0) (ready l.1 l.0) r

-- Over the tree of files, the result of the request is r, and the paths `asked`, in bytes, are asked for on the way.
pub record IsPrepared (tree : Tree) (w : PatternRequest) (asked : List (List ℕ)) (r : OrLine Ready) : Type 0 where
  pub parse : Or Expr
  pub reads : IsReadAs w parse
  pub paths : asked ≡ map encode_utf8_all (roots_then_pattern tree w parse).asked
  pub comes : GoalPasses (roots_then_pattern tree w parse).answer r

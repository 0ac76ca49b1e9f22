-- What a set of packages gives: the scopes of its statements and of the pattern, its rule table, and a goal.
use Rattle.std.specs.Prelude.{ℕ, zero, suc, ◌+◌, Bool, false, List, [], ◌∷◌, length, Option, Some, None, Result, Ok}
use Rattle.std.specs.Prelude.{Err, unwrap_or}
use Rattle.rpl_text.specs.Options.{◌>>=◌}
use Rattle.rpl_core.specs.Core.{Core}
use Rattle.rpl_forms.specs.Inlining.{Inners}
use Rattle.rpl_forms.specs.Table.{Row}
use Rattle.rpl_names.specs.Roots.{Packages}
use Rattle.rpl_names.specs.Tables as P
use Rattle.rpl_names.specs.Targets.{Head, body, boundary, halt_name, head, resolved}
pub use Rattle.rpl_names.specs.Targets.{rule_of}
use Rattle.rpl_names.specs.declared.targets.NameFault.{NameFault}
use Rattle.rpl_names.specs.declared.targets.Target.{Target}
use Rattle.rpl_syntax.specs.Expression.{Expr}
use Rattle.rpl_syntax.specs.declared.name.QName.{QName}
use Rattle.rpl_expand.specs.Expansion.{Scope}
use Rattle.rpl_expand.specs.Table.{Statement, goal, table}

-- ---- names

-- Each name of a loaded text stands for a rule. What stands for none is taken for the first rule, and makes no tree.
abbrev pub makes_tree : Result Target NameFault → Bool
makes_tree (Ok t) = t.captures
makes_tree (Err f) = false

-- the scope of the statement of a rule, or, with None, of the pattern, after rules that these stand for
abbrev pub scope_of : Packages → Option ℕ → Inners → Scope
scope_of p at I = record { rule = λ q. rule_of (resolved p at q); boundary = unwrap_or (boundary p at) 0; inners = I }

-- a name in the pattern is that of a rule that makes a tree
abbrev pub captures_of : Packages → QName → Bool
captures_of p q = makes_tree (resolved p None q)

-- ---- statements

-- the statement of the rule n, which has this head and this expression
abbrev pub statement_by : Packages → ℕ → Head → Expr → Statement
statement_by p n h e = record {
  name = h.name;
  block = h.block;
  captures = h.captures;
  rule = λ q. rule_of (resolved p (Some n) q);
  boundary = unwrap_or (boundary p (Some n)) 0;
  body = e;
}

-- the built-in rules have none
abbrev pub statement_at : Packages → ℕ → Option Statement
statement_at p n = head p n >>= (λ h. body p n >>= (λ e. Some (statement_by p n h e)))

abbrev pub with_one : Option Statement → List Statement → List Statement
with_one None ss = ss
with_one (Some s) ss = s ∷ ss

-- those of the n rules from k on; each of these has one, as `nothing_is_missing` says
abbrev pub statements_from : Packages → (k n : ℕ) → List Statement
statements_from p k zero = []
statements_from p k (suc n) = with_one (statement_at p k) (statements_from p (k + 1) n)

-- those of all rules but the two built-in ones
abbrev pub statements : Packages → List Statement
statements p = statements_from p 2 (length (P.rows p.stock.modules))

-- ---- what is made

-- the rule table
abbrev pub table_of : Packages → List Row
table_of p = table (halt_name p) (statements p)

-- the core of a pattern after rules that these stand for
abbrev pub goal_of : Packages → Inners → Expr → Core
goal_of p I e = goal (captures_of p) (scope_of p None I) e

-- In a set that is built the name `halt` that `error` makes stands for the built-in rule.
use Rattle.std.proofs.Common.{◌≡◌, ℕ, Option, Some, None, refl, ap}
use Rattle.std.specs.Prelude.{slice_get}
use Rattle.rpl_text.specs.Options.{◌>>=◌}
use Rattle.rpl_expand.proofs.Folding.{folds_once}
use Rattle.rpl_expand.proofs.MacroLaw.{macro_law}
use Rattle.rpl_expand.specs.Expansion.{core}
use Rattle.rpl_expand.specs.Sets.{rule_of, scope_of}
use Rattle.rpl_forms.specs.Forms.{casing_under, halt_rule, macro_core}
use Rattle.rpl_macro.specs.Macros.{applied_if, halt, text_of}
use Rattle.rpl_macro.specs.declared.kind.Macro.{Macro}
use Rattle.rpl_macro.specs.Kinds.{kind_of}
use Rattle.rpl_syntax.specs.Expression.{Expr}
use Rattle.rpl_scope.specs.Packages.{Module, Rule}
use Rattle.rpl_names.specs.Roots.{Packages}
use Rattle.rpl_names.specs.Targets.{pattern_site, resolved, resolved_at, resolved_in, row_at, rule_in, rule_site}
use Rattle.rpl_names.specs.declared.table.Row.{Row}
use Rattle.rpl_expand.proofs.Building.{set_of}
use Rattle.rpl_expand.proofs.LoadedRoots.{IsSet}
use Rattle.rpl_expand.specs.LoadLaws.{HasText, MacrosAreEquations}

module _ (p : Packages) where
  -- in a module, wherever it stands there
  in_module : (i start : ℕ) (o : Option Module) (m : Module) → o ≡ Some m
      → rule_of (resolved_in p.stock.modules i start halt o) ≡ halt_rule
  in_module i start o m e = ap (λ x. rule_of (resolved_in p.stock.modules i start halt x)) e

  in_pattern : IsSet p → rule_of (resolved p None halt) ≡ halt_rule
  in_pattern h = in_module p.top (pattern_site p).start (slice_get p.stock.modules p.top) h.top.0 h.top.1

  by_home : (w : Row) (r : Rule) (o : Option Module) → (o >>= (λ m. slice_get m.rules w.place)) ≡ Some r
      → rule_of (resolved_in p.stock.modules w.from r.start halt o) ≡ halt_rule
  by_home w r None e = absurd cc
  by_home w r (Some m) e = refl

  by_rule : (w : Row) (x : Option Rule) (e : Expr) → rule_in p.stock.modules w.from w.place ≡ x
      → (x >>= (λ r. Some r.body)) ≡ Some e
      → rule_of (resolved_at p halt (x >>= (λ r. Some (record { owner = w.from; start = r.start })))) ≡ halt_rule
  by_rule w None e at h = absurd cc
  by_rule w (Some r) e at h = by_home w r (slice_get p.stock.modules w.from) at

  by_row : (o : Option Row) (e : Expr)
      → ((o >>= (λ w. rule_in p.stock.modules w.from w.place)) >>= (λ r. Some r.body)) ≡ Some e
      → rule_of (resolved_at p halt (rule_site p o)) ≡ halt_rule
  by_row None e h = absurd cc
  by_row (Some w) e h = by_rule w (rule_in p.stock.modules w.from w.place) e refl h

  halts : IsSet p → (n : Option ℕ) → HasText p n → rule_of (resolved p n halt) ≡ halt_rule
  halts s None t = in_pattern s
  halts s (Some n) t = by_row (row_at p n) t.0 t.1

pub macros_are_equations : MacrosAreEquations
macros_are_equations p b n I c q e t = by_kind (kind_of q.name)
  where
    by_kind : (k : Option Macro)
        → macro_core k (text_of e) (core (casing_under k c) (scope_of p n I) e)
        ≡ core c (scope_of p n I) (applied_if k e)
    by_kind None = refl
    by_kind (Some k) = macro_law folds_once c (scope_of p n I) e k (halts p (set_of p b) n t)

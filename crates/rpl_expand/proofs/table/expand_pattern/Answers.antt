use Rattle.std.proofs.Common.{◌≡◌, ℕ, List, refl, sym, ap, ap₂, ◌∙◌, subst}
use Rattle.std.specs.Prelude.{Bool, None, codes, not}
use Rattle.rpl_core.specs.Listed.{rules_of}
use Rattle.rpl_core.specs.Programs.{calls}
use Rattle.rpl_core.specs.Table.{bodies_of}
use Rattle.rpl_core.specs.View.{core_of}
use Rattle.rpl_compile_laws.specs.Laws.{IsCapture}
use Rattle.rpl_macro.proofs.Names.{chars_low, encode_low}
use Rattle.rpl_syntax.specs.View.{expr_of}
use Rattle.rpl_names.specs.Sets.{set_seen}
use Rattle.rpl_expand.specs.Expansion.{core}
use Rattle.rpl_forms.specs.Counting.{KnowsInners, seen}
use Rattle.rpl_forms.specs.Rows.{inners_of}
use Rattle.rpl_expand.specs.Faults.{size_fault}
use Rattle.rpl_expand.specs.Answers.{Answers, IsDue, fault_named}
use Rattle.rpl_expand.specs.Sets.{captures_of, scope_of}
use Rattle.rpl_expand.specs.Table.{captured}
use Rattle.rpl_expand.specs.inside.Scopes.{scope_seen}
use Rattle.rpl_expand.proofs.Rooting.{goal_only, goal_root}
use Rattle.rpl_expand.proofs.Views.{goal_is}
use Rattle.rpl_expand.specs.declared.scope.Scope.{Scope}
use Rattle.rpl_forms.specs.Inlining.{Inners}
use Rattle.rpl_syntax.specs.Expression.{Expr}
use Rattle.rpl_core.specs.Core.{Core}
use Rattle.rpl_macro.specs.declared.casing.Casing.TheVariants.{Plain}
use Rattle.rpl_expand.proofs.table.expand_pattern.Goals as goal

-- the core of a pattern under its root capture, unless it has one
abbrev own : (s : Scope) (I : Inners) (e : Expr) → Bool → Core
own s I e r = captured (not r) (codes "*") (core Plain (scope_seen s I) e)

pub returns-in-Err-clause-exactly : goal.returns-in-Err-clause-exactly
returns-in-Err-clause-exactly c =
    let I = inners_of (rules_of c.args.rules.now) in
    let r = c.has_root-captures in
    let s = c.new-scope in
    let is = goal_is s.result c.args.packages.now I (expr_of c.args.e.now) r.result s.ensures.packages s.ensures.at
    s.ensures.boundary r.ensures in
    let known = subst (λ l. KnowsInners l I) (sym c.deref.ensures.value) c.in_ok-known.ensures.knows in
    let p = own s.result I (expr_of c.args.e.now) r.result in
    let due = subst (Answers (size_fault None p)) c.in-Err.is (c.check_goal_size.ensures I known) in
    subst (λ q. IsDue (size_fault None q) (fault_named c.in-Err.fault)) is due

pub returns-clause-exactly : goal.returns-clause-exactly
returns-clause-exactly c =
    let I = inners_of (rules_of c.args.rules.now) in
    let r = c.has_root-captures in
    let s = c.new-scope in
    let known = subst (λ l. KnowsInners l I) (sym c.deref.ensures.value) c.in_ok-known.ensures.knows in
    let is = goal_is s.result c.args.packages.now I (expr_of c.args.e.now) r.result s.ensures.packages s.ensures.at
    s.ensures.boundary r.ensures in
    let p = own s.result I (expr_of c.args.e.now) r.result in
    sym (ap (size_fault None) is)
    ∙ subst (Answers (size_fault None p)) c.in_default.is (c.check_goal_size.ensures I known)

pub returns-clause-goal : goal.returns-clause-goal
returns-clause-goal c =
    let word = codes "*" in
    let r = c.has_root-captures.result in
    let I = inners_of (rules_of c.args.rules.now) in
    let s = c.new-scope.result in
    let e = expr_of c.args.e.now in
    let is = goal_is s c.args.packages.now I e r c.new-scope.ensures.packages c.new-scope.ensures.at
    c.new-scope.ensures.boundary c.has_root-captures.ensures in
    let name : c.in_ok-root.root ≡ word =
    c.in_ok-root.ensures ∙ chars_low word (word, (refl, encode_low word refl)) refl in
    c.in_ok-under.ensures
    ∙ ap (λ n. captured (not r) n (core_of c.in_ok-body.body)) name
    ∙ ap (captured (not r) word)
    (c.in_ok-body.ensures
    ∙ ap₂ (λ k b. seen b I (core k (scope_seen s I) e)) c.plain.ensures.casing c.plain.ensures.in_lookbehind)
    ∙ is

pub returns-clause-calls : goal.returns-clause-calls
returns-clause-calls c = λ o r h.
    let rs = rules_of c.args.rules.now in
    let p = set_seen c.args.packages.now in
    goal_only rs (captures_of p) (scope_of p None (inners_of rs)) (expr_of c.args.e.now) refl o r
    (sym (ap (λ x. calls x r) (returns-clause-goal c)) ∙ h)

pub returns-clause-root : goal.returns-clause-root
returns-clause-root c = λ m.
    let rs = rules_of c.args.rules.now in
    let p = set_seen c.args.packages.now in
    let root = goal_root (bodies_of rs) (captures_of p) (scope_of p None (inners_of rs)) (expr_of c.args.e.now) m in
    subst (λ x. (label : List ℕ) × IsCapture (bodies_of rs) label x) (sym (returns-clause-goal c)) root

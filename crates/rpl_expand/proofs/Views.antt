-- The scope of a statement, and of the pattern, is that of its set.
use Rattle.std.proofs.Common.{◌≡◌, ℕ, Option, ap, ◌∙◌}
use Rattle.std.specs.Prelude.{Bool, None, codes, not, unwrap_or}
use Rattle.rpl_macro.specs.declared.casing.Casing.TheVariants.{Plain}
use Rattle.rpl_syntax.specs.Expression.{Expr}
use Rattle.rpl_forms.specs.Inlining.{Inners}
use Rattle.rpl_names.specs.Sets.{set_seen}
use Rattle.rpl_names.specs.Targets.{boundary, resolved}
use Rattle.rpl_names.specs.declared.set.PackageSet.{PackageSet}
use Rattle.rpl_expand.specs.Expansion as E
use Rattle.rpl_expand.specs.Sets.{captures_of, goal_of, makes_tree, rule_of, scope_of}
use Rattle.rpl_expand.specs.Table.{captured, has_root}
use Rattle.rpl_expand.specs.declared.scope.Scope.{Scope}
use Rattle.rpl_expand.specs.inside.Scopes.{scope_seen}

pub scope_is : (s : Scope) (packages : PackageSet) (at : Option ℕ) (I : Inners) → s.packages.now ≡ packages → s.at ≡ at
    → s.boundary ≡ unwrap_or (boundary (set_seen packages) at) 0 → scope_seen s I ≡ scope_of (set_seen packages) at I
scope_is s packages at I e f g =
    let with : PackageSet → Option ℕ → ℕ → E.Scope =
    λ w n b. record { rule = λ q. rule_of (resolved (set_seen w) n q); boundary = b; inners = I } in
    ap (λ w. with w s.at s.boundary) e ∙ ap (λ n. with packages n s.boundary) f ∙ ap (with packages at) g

-- the core of a pattern under its root capture
pub goal_is : (s : Scope) (packages : PackageSet) (I : Inners) (e : Expr) (r : Bool)
    → s.packages.now ≡ packages → s.at ≡ None → s.boundary ≡ unwrap_or (boundary (set_seen packages) None) 0
    → r ≡ has_root (λ q. makes_tree (resolved (set_seen s.packages.now) s.at q)) e
    → captured (not r) (codes "*") (E.core Plain (scope_seen s I) e) ≡ goal_of (set_seen packages) I e
goal_is s packages I e r f g h k =
    let root : r ≡ has_root (captures_of (set_seen packages)) e =
    k ∙ ap (λ w. has_root (λ q. makes_tree (resolved (set_seen w) s.at q)) e) f
    ∙ ap (λ n. has_root (λ q. makes_tree (resolved (set_seen packages) n q)) e) g in
    ap (λ t. captured (not r) (codes "*") (E.core Plain t e)) (scope_is s packages None I f g h)
    ∙ ap (λ b. captured (not b) (codes "*") (E.core Plain (scope_of (set_seen packages) None I) e)) root

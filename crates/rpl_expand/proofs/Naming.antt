-- The names that statements and patterns say have a target.
use Rattle.std.proofs.Common.{◌≡◌, ℕ, zero, suc, Option, Some, None, refl, sym, ap, subst, ◌∙◌}
use Rattle.std.specs.Prelude.{Result, Ok, length, slice_get}
use Rattle.std.specs.List.{Contains}
use Rattle.std.proofs.lemmas.List.Elements.{All-contains}
use Rattle.rpl_text.specs.Options.{◌>>=◌}
use Rattle.rpl_syntax.specs.Expression.{Expr}
use Rattle.rpl_syntax.specs.declared.name.QName.{QName}
use Rattle.rpl_scope.specs.Bodies as B
use Rattle.rpl_scope.specs.Packages.{Module, bound}
use Rattle.rpl_names.specs.Roots.{Packages}
use Rattle.rpl_names.specs.Tables.{rows}
use Rattle.rpl_names.specs.Targets.{body, resolved, resolved_in, rule_in}
use Rattle.rpl_names.specs.Targets.{size_of, target}
use Rattle.rpl_names.specs.declared.table.Row.{Row}
use Rattle.rpl_names.specs.declared.targets.NameFault.{NameFault}
use Rattle.rpl_names.specs.declared.targets.Target.{Target}
use Rattle.rpl_expand.proofs.Aiming.{refers_to}
use Rattle.rpl_expand.proofs.Goals.{AllStand}
use Rattle.rpl_expand.proofs.Modules.{AreSound, Stands}
use Rattle.rpl_expand.proofs.Rows.{located}
use Rattle.rpl_expand.proofs.Seeing.{Sees, sees}
use Rattle.rpl_expand.proofs.Tables.{body_is, resolved_is}

-- the name has a target
abbrev pub Has : Result Target NameFault → Type 0
Has x = (t : Target) × (x ≡ Ok t)

module _ (p : Packages) (sound : AreSound p.stock.modules) where
  has_target : (i : ℕ) (m : Module) (start : ℕ) (q : QName) → slice_get p.stock.modules i ≡ Some m
      → Stands p.stock.modules m start q
      → Has (target p.stock.modules i (bound p.stock.modules m start q))
  has_target i m start q at h =
      let seen = subst (Sees p.stock.modules i m start q.name) h.1 (sees p.stock.modules sound i m at start q) in
      let t = refers_to p.stock.modules i m at start q.name h.0 seen in
      (t.0, ap (target p.stock.modules i) h.1 ∙ t.1)

  in_row : (n : ℕ) (w : Row) (e : Expr) (q : QName) → slice_get (rows p.stock.modules) n ≡ Some w
      → body p (suc (suc n)) ≡ Some e → Contains (B.names e) q
      → Has (resolved p (Some (suc (suc n))) q)
  in_row n w e q at is c =
      let l = located 0 0 p.stock.modules n w at in
      let same : l.rule.body ≡ e = (let k = body_is p n w at l in cc) in
      let said = (sound.each l.owner l.home l.at).said.each l.place l.rule q l.has
      (subst (λ x. Contains (B.names x) q) (sym same) c) in
      let t = has_target l.owner l.home l.rule.start q l.at said in
      (t.0, resolved_is p n w at l q ∙ t.1)

  by_row : (n : ℕ) (o : Option Row) (e : Expr) (q : QName) → slice_get (rows p.stock.modules) n ≡ o
      → body p (suc (suc n)) ≡ Some e → Contains (B.names e) q
      → Has (resolved p (Some (suc (suc n))) q)
  by_row n (Some w) e q at is c = in_row n w e q at is c
  by_row n None e q at is c =
      let no : body p (suc (suc n)) ≡ None =
      ap (λ o. (o >>= (λ r. rule_in p.stock.modules r.from r.place)) >>= (λ r. Some r.body)) at in
      absurd (cc)

  -- the names of a statement
  pub said_names : (n : ℕ) (e : Expr) (q : QName) → body p n ≡ Some e → Contains (B.names e) q
      → Has (resolved p (Some n) q)
  said_names zero e q is c = absurd (cc)
  said_names (suc zero) e q is c = absurd (cc)
  said_names (suc (suc n)) e q is c = by_row n (slice_get (rows p.stock.modules) n) e q refl is c

  top_by : (o : Option Module) → slice_get p.stock.modules p.top ≡ o → (m : Module) × (o ≡ Some m)
      → (e : Expr) (q : QName)
      → AllStand p.stock p.top e → Contains (B.names e) q
      → Has (resolved_in p.stock.modules p.top (size_of o) q o)
  top_by None at m e q all c = let k = m.1 in absurd (cc)
  top_by (Some x) at m e q all c = has_target p.top x (length x.rules) q at
      (All-contains (Stands p.stock.modules x (length x.rules)) (B.names e) q (all x at) c)

  -- the names of the pattern, where there is a top module
  pub goal_names : (e : Expr) (q : QName) → (m : Module) × (slice_get p.stock.modules p.top ≡ Some m)
      → AllStand p.stock p.top e → Contains (B.names e) q → Has (resolved p None q)
  goal_names e q m all c = top_by (slice_get p.stock.modules p.top) refl m e q all c

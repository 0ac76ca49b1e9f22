-- A name that a module binds itself is bound to a rule of the table.
use Rattle.std.proofs.Common.{◌≡◌, ◌<◌, ℕ, ◌+◌, List, length, Option, Some, None, refl, sym, ap, subst, ◌∙◌}
use Rattle.std.specs.Prelude.{Bool, true, false, cond, not, Result, Ok, Err, slice_get}
use Rattle.std.specs.Result.{result_ok}
use Rattle.rpl_text.specs.Options.{◌>>=◌}
use Rattle.rpl_core.specs.Core.{Core, Capture}
use Rattle.rpl_core.specs.Table.{bodies_of}
use Rattle.rpl_core.specs.declared.rules.Rule.{Rule as Built}
use Rattle.rpl_forms.specs.Rows.{rows_of}
use Rattle.rpl_expand.specs.Sets.{table_of}
use Rattle.rpl_scope.specs.Packages.{Rule, Module, first_of, first_rule}
use Rattle.rpl_scope.specs.declared.module.Entry.{Entry}
use Rattle.rpl_scope.specs.declared.module.Referent.{Referent}
use Rattle.rpl_scope.specs.declared.module.Referent.TheVariants.{Own, Of, BuiltIn}
use Rattle.rpl_names.proofs.Numbering.{room_at}
use Rattle.rpl_names.specs.Owned.{own, own_entry, own_rule}
use Rattle.rpl_names.specs.Roots.{Packages}
use Rattle.rpl_names.specs.Targets.{rule_in, target_by, target_in}
use Rattle.rpl_names.specs.declared.targets.NameFault.{NameFault}
use Rattle.rpl_names.specs.declared.targets.Target.{Target}
use Rattle.rpl_expand.specs.LoadLaws.{IsRuleOf}
use Rattle.rpl_expand.proofs.Aiming.{Targets}
use Rattle.rpl_expand.proofs.Modules.{AreSound}
use Rattle.rpl_expand.proofs.Scoping.{in_rules, target_captures}

-- the rule of a target, in its module
record IsOwn (ms : List Module) (i : ℕ) (t : Target) : Type 0 where
  place : ℕ
  home : Module
  rule : Rule
  at : slice_get ms i ≡ Some home
  has : slice_get home.rules place ≡ Some rule
  is : t ≡ record { rule = first_rule ms i + place; captures = not rule.alias }

module _ (ms : List Module) (i : ℕ) (t : Target) where
  by_rule : (k : ℕ) (m : Module) → slice_get ms i ≡ Some m → (o : Option Rule) → slice_get m.rules k ≡ o
      → target_by (first_rule ms i + k) o ≡ Ok t → IsOwn ms i t
  by_rule k m at None has e = absurd (cc)
  by_rule k m at (Some r) has e = record { place = k; home = m; rule = r; at = at; has = has; is = cc }

  by_module : (k : ℕ) (o : Option Module) → slice_get ms i ≡ o
      → target_by (first_rule ms i + k) (o >>= (λ m. slice_get m.rules k)) ≡ Ok t → IsOwn ms i t
  by_module k None at e = absurd (cc)
  by_module k (Some m) at e = by_rule k m at (slice_get m.rules k) refl e

  by_answer : (k : ℕ) (x : Result Target NameFault) → target_in ms i k ≡ x → result_ok x ≡ Some t → IsOwn ms i t
  by_answer k (Err f) is e = absurd (cc)
  by_answer k (Ok u) is e = let same : u ≡ t = cc in by_module k (slice_get ms i) refl (is ∙ ap Ok same)

  by_referent : (x : Referent) → own_rule ms i x ≡ Some t → IsOwn ms i t
  by_referent (Own k) e = by_answer k (target_in ms i k) refl e
  by_referent (Of j k) e = absurd (cc)
  by_referent BuiltIn e = absurd (cc)

  by_hidden : (b : Bool) (x : Referent) → cond b None (own_rule ms i x) ≡ Some t → IsOwn ms i t
  by_hidden true x e = absurd (cc)
  by_hidden false x e = by_referent x e

  by_entry : (o : Option Entry) → (o >>= (own_entry ms i)) ≡ Some t → IsOwn ms i t
  by_entry None e = absurd (cc)
  by_entry (Some e) h = by_hidden e.hidden e.referent h

  by_home : (n : List ℕ) (o : Option Module) → (o >>= (λ m. first_of n m.names >>= (own_entry ms i))) ≡ Some t
      → IsOwn ms i t
  by_home n None e = absurd (cc)
  by_home n (Some m) e = by_entry (first_of n m.names) e

pub own_is_rule : (p : Packages) (rs : List Built) → rows_of rs ≡ table_of p → AreSound p.stock.modules → (i : ℕ)
    (n : List ℕ) (t : Target) → own p i n ≡ Some t → IsRuleOf (bodies_of rs) t
own_is_rule p rs same sound i n t h =
    let ms = p.stock.modules in
    let x = by_home ms i t n (slice_get ms i) h in
    let number : first_rule ms i + x.place ≡ t.rule = sym (ap (λ y. y.rule) x.is) in
    let found : rule_in ms i x.place ≡ Some x.rule = ap (λ o. o >>= (λ m. slice_get m.rules x.place)) x.at ∙ x.has in
    let target : Targets ms i x.place = record {
      owner = x.home;
      rule = x.rule;
      at = x.at;
      has = x.has;
      is = ap (target_by (first_rule ms i + x.place)) found;
    } in
    record {
      within = subst (λ y. y < length (bodies_of rs)) number
          (in_rules p rs same sound (first_rule ms i + x.place) (room_at 0 0 ms i x.place x.home x.rule x.at x.has));
      captures = λ yes. subst (λ y. (label : List ℕ) × (c : Core)
          × (slice_get (bodies_of rs) y ≡ Some (Capture label c)))
          number
          (target_captures p rs same sound i x.place target (sym (ap (λ y. y.captures) x.is) ∙ yes));
    }

-- The search for the rules that a goal reaches, from its first rules to its end.
use Rattle.std.proofs.Common.{◌≡◌, ℕ, ◌<◌, ◌≤◌, List, [], ◌∷◌, ◌++◌, length, Some, None, refl, sym}
use Rattle.std.proofs.Common.{ap, ◌∙◌, ⊎_elim, inl, inr, eq-eqb, subst}
use Rattle.std.proofs.lemmas.Bool.{eqb-true}
use Rattle.std.proofs.lemmas.Cmp.{nat_cmp_total}
use Rattle.std.proofs.lemmas.List.Elements.{All-weaker}
use Rattle.std.proofs.lemmas.Map.Views.{All-set_contains, length-le_from_below}
use Rattle.std.proofs.lemmas.Option.{slice_get-map}
use Rattle.std.specs.BTreeSet.{IsOrdered, btree_set_len}
use Rattle.std.specs.Ordering.{nat_cmp}
use Rattle.std.specs.Prelude.{Bool, true, false, ◌||◌, ◌&&◌, not, nat_eq, ◌⊎◌, slice_get, option_map}
use Rattle.rpl_core.specs.Core.{Core}
use Rattle.rpl_core.specs.Programs.{calls, Reaches, by_goal, by_rule}
use Rattle.rpl_core.specs.Table.{bodies_of}
use Rattle.rpl_core.specs.View.{core_of}
use Rattle.rpl_core.specs.declared.rules.Rule.{Rule}
use Rattle.rpl_core.specs.Marked.{CallsAreRules, HasReached, has}
use Rattle.rpl_core.specs.inside.Searching.{Finds, Reached}
use Rattle.rpl_core.specs.Marks.{waits}
use Rattle.rpl_core.specs.declared.reach.RuleSearch.{RuleSearch}
use Rattle.rpl_core.proofs.Marking.{waits_more}

-- where a rule comes from, and where it goes
either : (x a b : Bool) → x ≡ (a || b) → x ≡ true → (a ≡ true) ⊎ (b ≡ true)
either x true b e t = inl refl
either x false b e t = inr (sym e ∙ t)

first : (a b : Bool) → (a && b) ≡ true → a ≡ true
first true b e = refl
first false b e = absurd (cc)

by_left : (x a b : Bool) → x ≡ (a || b) → a ≡ true → x ≡ true
by_left x a b e t = e ∙ ap (λ y. y || b) t

by_right : (x a b : Bool) → x ≡ (a || b) → b ≡ true → x ≡ true
by_right x true b e t = e
by_right x false b e t = e ∙ t

and_true : (a b : Bool) → a ≡ true → b ≡ true → (a && b) ≡ true
and_true a b s t = ap (λ x. x && b) s ∙ t

module _ (R : List Core) (g : Core) where
  -- the goal's own calls are found
  pub search_begins : (s s1 : RuleSearch) → IsOrdered nat_cmp s.found → ((r : ℕ) → has s.found r ≡ false) →
      s.waiting.items ≡ [] → Finds (calls g) s s1 → Reached R g s1
  search_begins s s1 sorted unset none m = record {
    ordered = m.ordered sorted;
    under =
        λ r t. by_goal r (⊎_elim (λ u. absurd (let e = sym (unset r) ∙ u in false_true e)) (λ u. u)
        (either _ (has s.found r) (calls g r) (m.found r) t));
    known =
        λ r w. ⊎_elim (λ u. absurd (let e = sym (ap (λ l. waits l r) none) ∙ u in false_true e))
        (first (has s1.found r) (not (has s.found r)))
        (either _ (waits s.waiting.items r) _ (m.waiting r) w);
    goal = λ r c. by_right _ (has s.found r) _ (m.found r) c;
    rules = λ q t. inl (by_right _ (waits s.waiting.items q) _ (m.waiting q) (and_true _ _ t (ap not (unset q))));
  }
    where
      false_true : false ≡ true → ⊥
      false_true e = cc

  -- one rule that waited is looked at
  pub search_goes_on : (s s1 s2 : RuleSearch) (q : ℕ) (f : ℕ → Bool) → Reached R g s →
      s.waiting.items ≡ s1.waiting.items ++ q ∷ [] → s1.found ≡ s.found →
      ((r : ℕ) → Reaches R g q → f r ≡ true → Reaches R g r) →
      ((r : ℕ) (p : Core) → slice_get R q ≡ Some p → calls p r ≡ true → f r ≡ true) → Finds f s1 s2 → Reached R g s2
  search_goes_on s s1 s2 q f k rest same sound all m = record {
    ordered = m.ordered (subst (λ x. IsOrdered nat_cmp x) (sym same) k.ordered);
    under =
        λ r t. ⊎_elim (λ u. k.under r (old r u))
        (sound r (k.under q
        (k.known q (waited q (by_right _ (waits s1.waiting.items q) _ refl (eq-eqb q q refl))))))
        (either _ (has s1.found r) (f r) (m.found r) t);
    known =
        λ r w. ⊎_elim (λ u. keeps r (k.known r (waited r (by_left _ (waits s1.waiting.items r) (nat_eq q r) refl u))))
        (first (has s2.found r) (not (has s1.found r)))
        (either _ (waits s1.waiting.items r) _ (m.waiting r) w);
    goal = λ r c. keeps r (k.goal r c);
    rules = λ x t. go x t (has s1.found x) refl;
  }
    where
      old : (r : ℕ) → has s1.found r ≡ true → has s.found r ≡ true
      old r u = ap (λ l. has l r) (sym same) ∙ u

      keeps : (r : ℕ) → has s.found r ≡ true → has s2.found r ≡ true
      keeps r u = by_left _ (has s1.found r) _ (m.found r) (ap (λ l. has l r) same ∙ u)

      waited : (r : ℕ) → (waits s1.waiting.items r || nat_eq q r) ≡ true → waits s.waiting.items r ≡ true
      waited r u = ap (λ l. waits l r) rest ∙ waits_more s1.waiting.items q r ∙ u

      looked : (x : ℕ) → q ≡ x → (r : ℕ) (p : Core) → slice_get R x ≡ Some p → calls p r ≡ true →
          has s2.found r ≡ true
      looked x e r p is c = by_right _ (has s1.found r) _ (m.found r) (all r p (ap (slice_get R) e ∙ is) c)

      go : (x : ℕ) → has s2.found x ≡ true → (b : Bool) → has s1.found x ≡ b →
          (waits s2.waiting.items x ≡ true) ⊎ ((r : ℕ) (p : Core) → slice_get R x ≡ Some p →
          calls p r ≡ true → has s2.found r ≡ true)
      go x t false is = inl (by_right _ (waits s1.waiting.items x) _ (m.waiting x) (and_true _ _ t (ap not is)))
      go x t true is =
          ⊎_elim (λ w. ⊎_elim (λ u. inl (by_left _ (waits s1.waiting.items x) _ (m.waiting x) u))
          (λ e. inr (looked x (eqb-true q x e)))
          (either _ (waits s1.waiting.items x) (nat_eq q x)
          (ap (λ l. waits l x) rest ∙ waits_more s1.waiting.items q x) w)) (λ l. inr (λ r p e c. keeps r
          (l r p e c))) (k.rules x (old x is))

  -- what is reached stands in the table
  pub within : CallsAreRules R g → (r : ℕ) → Reaches R g r → r < length R
  within w _ (by_goal r e) = w.goal r e
  within w _ (by_rule q r p m e c) = w.rules q p e r c

  -- so no more is found than there are rules
  pub few : (s : RuleSearch) → CallsAreRules R g → Reached R g s → btree_set_len s.found ≤ length R
  few s w k =
      length-le_from_below (length R) s.found.keys k.ordered
      (All-weaker (λ r. has s.found r ≡ true) (λ r. r < length R) (λ r h. within w r (k.under r h)) s.found.keys
      (All-set_contains nat_cmp_total s.found))

  -- nothing waits any more
  all_found : (s : RuleSearch) → CallsAreRules R g → Reached R g s → s.waiting.items ≡ [] → (r : ℕ) → Reaches R g r →
      has s.found r ≡ true
  all_found s w k none _ (by_goal r e) = k.goal r e
  all_found s w k none _ (by_rule q r p m e c) =
      ⊎_elim (λ v. let u : false ≡ true = ap (λ l. waits l q) (sym none) ∙ v in absurd (cc))
      (λ l. l r p e c) (k.rules q (all_found s w k none q m))

  pub search_ends : (s : RuleSearch) → CallsAreRules R g → Reached R g s → s.waiting.items ≡ [] →
      HasReached R g s.found
  search_ends s w k none r = (k.under r, all_found s w k none r)

-- the body of the rule with a number
pub body_at : (rs : List Rule) (k : ℕ) (rule : Rule) (p : Core) → Some rule ≡ slice_get rs k →
    slice_get (bodies_of rs) k ≡ Some p → core_of rule.body ≡ p
body_at rs k rule p is e =
    let a : Some (core_of rule.body) ≡ Some p = ap (option_map (λ (r : Rule). core_of r.body)) is
    ∙ sym (slice_get-map (λ (r : Rule). core_of r.body) rs k) ∙ e in
    cc

-- a rule of a table has its core among the cores of the table, at the same number
pub body_is : (rs : List Rule) (k : ℕ) (rule : Rule) → Some rule ≡ slice_get rs k →
    slice_get (bodies_of rs) k ≡ Some (core_of rule.body)
body_is rs k rule is =
    slice_get-map (λ (r : Rule). core_of r.body) rs k ∙ sym (ap (option_map (λ (r : Rule). core_of r.body)) is)

pub no_body : (rs : List Rule) (k : ℕ) (p : Core) → None ≡ slice_get rs k → slice_get (bodies_of rs) k ≡ Some p → ⊥
no_body rs k p is e =
    let a : None ≡ Some p = ap (option_map (λ (r : Rule). core_of r.body)) is
    ∙ sym (slice_get-map (λ (r : Rule). core_of r.body) rs k) ∙ e in
    cc

-- where the table has no rule, the list of its cores has no core
pub none_there : (rs : List Rule) (k : ℕ) → None ≡ slice_get rs k → slice_get (bodies_of rs) k ≡ None
none_there rs k is =
    slice_get-map (λ (r : Rule). core_of r.body) rs k ∙ sym (ap (option_map (λ (r : Rule). core_of r.body)) is)

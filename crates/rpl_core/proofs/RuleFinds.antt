-- How rules are found.
use Rattle.std.proofs.Common.{◌≡◌, ℕ, ◌+◌, [], ◌∷◌, ◌++◌, length, refl, sym, ap, ◌∙◌, subst, arith, length-append}
use Rattle.std.proofs.Math.Bool.{or-false}
use Rattle.std.specs.BTreeMap.{is_at}
use Rattle.std.specs.BTreeSet.{IsOrdered, Updates, btree_set_len}
use Rattle.std.specs.Cmp.{unsigned_tied}
use Rattle.std.specs.Ordering.{nat_cmp}
use Rattle.std.specs.Prelude.{Bool, true, false, ◌||◌, ◌&&◌, not, nat_eq, cond}
use Rattle.rpl_core.specs.Marked.{has}
use Rattle.rpl_core.specs.inside.Searching.{Finds}
use Rattle.rpl_core.specs.Marks.{waits}
use Rattle.rpl_core.proofs.Bools.{eq_of}
use Rattle.rpl_core.proofs.Marking.{later, more, not_new, waits_more}
use Rattle.rpl_core.specs.declared.reach.RuleSearch.{RuleSearch}

-- no rule
pub finds_none : (s : RuleSearch) → Finds (λ r. false) s s
finds_none s = record {
  found = λ r. sym (or-false (has s.found r));
  waiting = λ r. not_new (waits s.waiting.items r) (has s.found r);
  left = refl;
  ordered = λ o. o;
}

or_or : (a b c : Bool) → ((a || b) || c) ≡ (a || (b || c))
or_or true b c = refl
or_or false b c = refl

-- some rules, and then others
pub finds_then : (f g : ℕ → Bool) (s s1 s2 : RuleSearch) → Finds f s s1 → Finds g s1 s2 → Finds (λ r. f r || g r) s s2
finds_then f g s s1 s2 a b = record {
  found = λ r. b.found r ∙ ap (λ x. x || g r) (a.found r) ∙ or_or (has s.found r) (f r) (g r);
  waiting = λ r.
      let m = has s.found r in
      let m1 = has s1.found r in
      let m2 = has s2.found r in
      b.waiting r ∙ ap (λ x. x || (m2 && not m1)) (a.waiting r)
      ∙ later (waits s.waiting.items r) m m1 m2 (more m m1 (f r) (a.found r)) (more m1 m2 (g r) (b.found r));
  left = let x = a.left in let y = b.left in omega arith;
  ordered = λ o. b.ordered (a.ordered o);
}

-- a set with one number more
after : (b m : Bool) → cond b true m ≡ (m || b)
after true true = refl
after true false = refl
after false true = refl
after false false = refl

updated : (s s1 : RuleSearch) (k r : ℕ) → Updates nat_cmp s.found s1.found k true →
    has s1.found r ≡ (has s.found r || nat_eq k r)
updated s s1 k r up =
    up.0 r ∙ after (is_at (nat_cmp k) r) (has s.found r) ∙ ap (λ b. has s.found r || b) (unsigned_tied k r)

-- a rule that wasn't found
only_new : (e m n : Bool) → n ≡ (m || e) → (e ≡ true → m ≡ false) → e ≡ (n && not m)
only_new true true n is h = let x = h refl in absurd (cc)
only_new true false n is h = sym (ap (λ b. b && true) is)
only_new false true n is h = sym (ap (λ b. b && false) is)
only_new false false n is h = sym (ap (λ b. b && true) is)

pub find_one : (s s1 : RuleSearch) (k : ℕ) → has s.found k ≡ false → Updates nat_cmp s.found s1.found k true →
    btree_set_len s1.found ≡ btree_set_len s.found + 1 → IsOrdered nat_cmp s1.found →
    s1.waiting.items ≡ s.waiting.items ++ k ∷ [] → Finds (λ r. nat_eq k r) s s1
find_one s s1 k absent up count sorted f = record {
  found = λ r. updated s s1 k r up;
  waiting =
      λ r. ap (λ l. waits l r) f ∙ waits_more s.waiting.items k r
      ∙ ap (λ b. waits s.waiting.items r || b) (only_new (nat_eq k r) (has s.found r) (has s1.found r)
      (updated s s1 k r up) (λ e. subst (λ x. has s.found x ≡ false) (eq_of k r e) absent));
  left = omega (arith, ap length f, length-append s.waiting.items (k ∷ []), count);
  ordered = λ o. sorted;
}

-- How rules are found, one after the other.
use Rattle.std.proofs.Common.{◌≡◌, ℕ, ◌-◌, ◌<◌, ◌≤◌, [], ◌∷◌, ◌++◌, length, get_or, set, refl, sym, ap, ◌∙◌, ⊎_elim}
use Rattle.std.proofs.Common.{arith, length-append, length-set, eq-eqb, get_or-set_same, get_or-set_other}
use Rattle.std.proofs.lemmas.Bool.{cases_eq, ne_eqb}
use Rattle.std.proofs.lemmas.Bool.Decides.{nat_tests}
use Rattle.std.specs.Prelude.{Bool, true, false, ◌||◌, ◌&&◌, ◌⊎◌, not, nat_eq, nat_lt, nat_le}
use Rattle.rpl_core.specs.Marks.{unmarked, waits}
use Rattle.rpl_check.specs.inside.Search.{in_block, found, Finds}
use Rattle.rpl_core.proofs.Marking.{never, not_new, joined, later, more, waits_more, unmarked_less}
use Rattle.rpl_check.specs.declared.recursion.BlockSearch.{BlockSearch}

-- none is found
pub finds_none : (s : BlockSearch) → Finds (λ r. false) s s
finds_none s = record {
  start = refl;
  long = refl;
  marks = λ r. never (found s r) (in_block s r);
  waiting = λ r. not_new (waits s.waiting.items r) (found s r);
  left = refl;
}

-- the same rules by another test
pub finds_as : (f g : ℕ → Bool) (s s1 : BlockSearch) → Finds f s s1 → ((r : ℕ) → f r ≡ g r) → Finds g s s1
finds_as f g s s1 a e = record {
  start = a.start;
  long = a.long;
  marks = λ r. a.marks r
      ∙ ap (λ b. found s r || (in_block s r && b)) (e r);
  waiting = a.waiting;
  left = a.left;
}

same_block : (s s1 : BlockSearch) (r : ℕ) → s1.start ≡ s.start → length s1.marks.items ≡ length s.marks.items
    → in_block s1 r ≡ in_block s r
same_block s s1 r e f = ap (λ a. nat_le a r && nat_lt (r - a) (length s1.marks.items)) e
    ∙ ap (λ n. nat_le s.start r && nat_lt (r - s.start) n) f

-- some are found, and then others
pub finds_then : (f g : ℕ → Bool) (s s1 s2 : BlockSearch) → Finds f s s1 → Finds g s1 s2 → Finds (λ r. f r || g r) s s2
finds_then f g s s1 s2 a b = record {
  start = b.start ∙ a.start;
  long = b.long ∙ a.long;
  marks = λ r. b.marks r ∙ ap (λ k. found s1 r || (k && g r)) (same_block s s1 r a.start a.long)
      ∙ ap (λ x. x || (in_block s r && g r)) (a.marks r) ∙ joined (found s r) (in_block s r) (f r) (g r);
  waiting = λ r.
      let m = found s r in
      let m1 = found s1 r in
      let m2 = found s2 r in
      b.waiting r ∙ ap (λ x. x || (m2 && not m1)) (a.waiting r)
      ∙ later (waits s.waiting.items r) m m1 m2 (more m m1 (in_block s r && f r) (a.marks r))
      (more m1 m2 (in_block s1 r && g r) (b.marks r));
  left = b.left ∙ a.left;
}

-- one is found
all_on : (a b : Bool) → a ≡ true → b ≡ true → (a && b) ≡ true
all_on a b s t = ap (λ x. x && b) s ∙ t

module _ (s s1 : BlockSearch) (k : ℕ) (le : s.start ≤ k) (lt : k - s.start < length s.marks.items) (unset :
    get_or s.marks.items (k - s.start) false ≡ false) (st : s1.start ≡ s.start) (e :
    s1.marks.items ≡ set s.marks.items (k - s.start) true) where
  seen : (r : ℕ) → found s1 r ≡ (nat_le s.start r && get_or (set s.marks.items (k - s.start) true) (r - s.start) false)
  seen r = ap (λ a. nat_le a r && get_or s1.marks.items (r - a) false) st
      ∙ ap (λ l. nat_le s.start r && get_or l (r - s.start) false) e

  same_on : (r : ℕ) → k ≡ r → found s1 r ≡ true
  same_on r z =
      let from : nat_le s.start r ≡ true = grind (arith, nat_tests) in
      let at : k - s.start ≡ r - s.start = omega arith in
      seen r ∙ all_on (nat_le s.start r) _ from (ap (λ x. get_or (set s.marks.items (k - s.start) true) x false)
      (sym at) ∙ get_or-set_same s.marks.items (k - s.start) true false lt)

  was_off : (r : ℕ) → k ≡ r → found s r ≡ false
  was_off r z = ap (found s) (sym z) ∙ ap (λ b. nat_le s.start k && b) unset ∙ and_false (nat_le s.start k)
    where
      and_false : (b : Bool) → (b && false) ≡ false
      and_false true = refl
      and_false false = refl

  other_same : (r : ℕ) → (k ≡ r → ⊥) → found s1 r ≡ found s r
  other_same r ne = seen r ∙ go (nat_le s.start r) refl
    where
      go : (b : Bool) → nat_le s.start r ≡ b → (b && get_or (set s.marks.items (k - s.start) true) (r - s.start) false)
          ≡ (b && get_or s.marks.items (r - s.start) false)
      go true h =
          let from : s.start ≤ r = grind (arith, nat_tests) in
          get_or-set_other s.marks.items (k - s.start) (r - s.start) true false (λ z. ne (omega arith))
      go false h = refl

  marks_one : (r : ℕ) → found s1 r ≡ (found s r || (in_block s r && nat_eq k r))
  marks_one r = ⊎_elim same other (cases_eq k r)
    where
      same : k ≡ r → found s1 r ≡ (found s r || (in_block s r && nat_eq k r))
      same z =
          let inside : in_block s r ≡ true = grind (arith, nat_tests) in
          same_on r z ∙ sym (ap (λ x. x || (in_block s r && nat_eq k r)) (was_off r z)
          ∙ all_on (in_block s r) (nat_eq k r) inside (eq-eqb k r z))

      other : (k ≡ r → ⊥) → found s1 r ≡ (found s r || (in_block s r && nat_eq k r))
      other ne = other_same r ne ∙ never (found s r) (in_block s r)
          ∙ sym (ap (λ x. found s r || (in_block s r && x)) (ne_eqb k r ne))

  new_one : (r : ℕ) → nat_eq k r ≡ (found s1 r && not (found s r))
  new_one r = ⊎_elim same other (cases_eq k r)
    where
      same : k ≡ r → nat_eq k r ≡ (found s1 r && not (found s r))
      same z = eq-eqb k r z ∙ sym (all_on (found s1 r) (not (found s r)) (same_on r z) (ap not (was_off r z)))

      none : (b : Bool) → false ≡ (b && not b)
      none true = refl
      none false = refl

      other : (k ≡ r → ⊥) → nat_eq k r ≡ (found s1 r && not (found s r))
      other ne = ne_eqb k r ne ∙ none (found s r) ∙ sym (ap (λ x. x && not (found s r)) (other_same r ne))

  pub finds_one : s1.waiting.items ≡ s.waiting.items ++ k ∷ [] → Finds (λ r. nat_eq k r) s s1
  finds_one f = record {
    start = st;
    long = ap length e ∙ length-set s.marks.items (k - s.start) true;
    marks = marks_one;
    waiting = λ r. ap (λ l. waits l r) f ∙ waits_more s.waiting.items k r
        ∙ ap (λ b. waits s.waiting.items r || b) (new_one r);
    left =
        let a = unmarked_less s.marks.items (k - s.start) lt unset in
        omega (arith, ap length f, length-append s.waiting.items (k ∷ []), ap unmarked e);
  }

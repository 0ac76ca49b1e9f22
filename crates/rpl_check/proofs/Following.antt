-- What a rule reaches before a character: found from rule to rule, or shown not to be the rule itself.
use Rattle.std.proofs.Common.{◌≡◌, ℕ, ◌+◌, ◌-◌, ◌<◌, ◌≤◌, List, [], ◌∷◌, ◌++◌, length, refl, sym, ap, ◌∙◌, subst}
use Rattle.std.proofs.Common.{⊎_elim, inl, inr, arith}
use Rattle.std.proofs.lemmas.Bool.{cases_lt}
use Rattle.std.proofs.lemmas.Bool.Decides.{nat_tests}
use Rattle.std.proofs.lemmas.List.{get_or_past}
use Rattle.std.specs.Prelude.{Bool, true, false, ◌||◌, ◌&&◌, not, nat_lt, nat_le, nat_eq, ◌≢◌, ◌⊎◌}
use Rattle.rpl_core.specs.Core.{Core}
use Rattle.rpl_facts.specs.Facts.{IsLeast, Follows, calls_at, calls_here}
use Rattle.rpl_core.specs.Marks.{marked}
use Rattle.rpl_check.specs.inside.Search.{marked_from}
use Rattle.rpl_facts.specs.Groups.{CallsBefore}
use Rattle.rpl_check.specs.inside.Reach.{Reach}
use Rattle.rpl_core.specs.Marks.{waits}
use Rattle.rpl_check.specs.inside.Search.{found, in_block, Finds}
use Rattle.rpl_check.specs.declared.recursion.BlockSearch.{BlockSearch}
use Rattle.rpl_core.proofs.Marking.{waits_more}
use Rattle.rpl_facts.proofs.Least.{here_called}
use Rattle.rpl_core.proofs.Bools.{clash, either, left, right, both, paired, not_on, eq_self, eq_of, same_tests}
use Rattle.rpl_facts.proofs.Tests.{passing}

-- a rule before b calls rules before b alone
pub called_before : (R : List Core) (m : ℕ → Bool) (b q t : ℕ) → CallsBefore R b → q < b → calls_at m R q t ≡ true
    → t < b
called_before R m b q t calls lt e = let x = passing (λ p. calls_here m p t) R q e in
    calls q t x.0 lt x.1 (here_called m t x.0 x.2)

lt_of : (a b : ℕ) → nat_lt a b ≡ true → a < b
lt_of a b e = grind (arith, nat_tests)

lt_on : (a b : ℕ) → a < b → nat_lt a b ≡ true
lt_on a b l = grind (arith, nat_tests)

lt_off : (a b : ℕ) → b ≤ a → nat_lt a b ≡ false
lt_off a b l = grind (arith, nat_tests)

le_on : (a b : ℕ) → a ≤ b → nat_le a b ≡ true
le_on a b l = grind (arith, nat_tests)

-- the rules that are not r and don't reach it
abbrev away : (ℕ → ℕ → Bool) → ℕ → ℕ → Bool
away reach r t = not (nat_eq t r) && not (reach t r)

-- the rules before a, and those found
abbrev closed_set : ℕ → BlockSearch → ℕ → Bool
closed_set a s t = nat_lt t a || found s t

module _ (R : List Core) (m : ℕ → Bool) (reach : ℕ → ℕ → Bool) (all : Reach R m reach) where
  -- what is reached from a rule that is reached
  pub reach_on : (q r t : ℕ) → reach q r ≡ true → reach r t ≡ true → reach q t ≡ true
  reach_on q r t x y =
      (all r).least (reach q) (record {
        first = λ u e. (all q).solution.further r u x e;
        further = λ v u z e. (all q).solution.further v u z e;
      }) t y

  pub reach_from : (q r t : ℕ) → calls_at m R q r ≡ true → reach r t ≡ true → reach q t ≡ true
  reach_from q r t e y = reach_on q r t ((all q).solution.first r e) y

  -- an earlier rule reaches earlier ones alone
  pub reach_before : (a q t : ℕ) → CallsBefore R a → q < a → reach q t ≡ true → t < a
  reach_before a q t calls lt y =
      lt_of t a ((all q).least (λ u. nat_lt u a) (record {
        first =
            λ u e. lt_on u a (called_before R m a q u calls lt e);
        further = λ v u z e. lt_on u a (called_before R m a v u calls (lt_of v a z) e);
      }) t y)

  -- a rule that calls earlier rules and others that don't reach themselves doesn't either
  pub no_self : (a r : ℕ) → CallsBefore R a → a ≤ r
      → ((t : ℕ) → calls_at m R r t ≡ true → (t < a) ⊎ ((t ≢ r) × (reach t t ≡ false))) → reach r r ≡ false
  no_self a r calls le clean = go (reach r r) refl
    where
      is_away : (t : ℕ) → t ≢ r → (reach t r ≡ true → ⊥) → away reach r t ≡ true
      is_away t ne far = paired (not (nat_eq t r)) (not (reach t r)) (differs (nat_eq t r) refl)
          (stays (reach t r) refl)
        where
          differs : (b : Bool) → nat_eq t r ≡ b → not b ≡ true
          differs true e = absurd (ne (eq_of t r e))
          differs false e = refl

          stays : (b : Bool) → reach t r ≡ b → not b ≡ true
          stays true e = absurd (far e)
          stays false e = refl

      first : (t : ℕ) → calls_at m R r t ≡ true → away reach r t ≡ true
      first t e =
          ⊎_elim (λ l. is_away t (λ z. absurd (omega arith)) (λ y. absurd (let k = reach_before a t r calls l y in
          omega arith)))
          (λ x. is_away t x.0 (λ y. clash (reach t t) (reach_on t r t y ((all r).solution.first t e)) x.1))
          (clean t e)

      further : (q t : ℕ) → away reach r q ≡ true → calls_at m R q t ≡ true → away reach r t ≡ true
      further q t x e =
          let off = not_on (reach q r) (both (not (nat_eq q r)) (not (reach q r)) x).1 in
          is_away t (λ z. clash (reach q r) (subst (λ u. reach q u ≡ true) z ((all q).solution.first t e)) off)
          (λ y. clash (reach q r) (reach_from q t r e y) off)

      go : (b : Bool) → reach r r ≡ b → b ≡ false
      go false e = refl
      go true e = let x = (all r).least (away reach r) (record { first = first; further = further }) r e in
          clash (nat_eq r r) (eq_self r) (not_on (nat_eq r r) (both (not (nat_eq r r)) (not (reach r r)) x).0)

-- what a mark of a block's list says
pub from_cases : (a : ℕ) (marks : List Bool) (t : ℕ) → marked_from a marks t ≡ true
    → (t < a) ⊎ ((a ≤ t) × (marked marks (t - a) ≡ true))
from_cases a marks t e =
    either (nat_lt t a) (marked marks (t - a)) (λ l. inl (lt_of t a l))
    (λ x. ⊎_elim (λ l. inl l) (λ l. inr (l, x)) (cases_lt t a)) e

-- the search from the rule r through the n rules from a on: what is found is reached, and what a rule calls is found
-- unless that rule still waits
module _ (R : List Core) (m : ℕ → Bool) (r a n : ℕ) where
  pub record Followed (s : BlockSearch) : Type 0 where
    pub start : s.start ≡ a
    pub long : length s.marks.items ≡ n
    pub under : (k : ℕ → Bool) → Follows R m r k → (t : ℕ) → found s t ≡ true → k t ≡ true
    pub known : (t : ℕ) → waits s.waiting.items t ≡ true → found s t ≡ true
    pub first : (t : ℕ) → a ≤ t → t < a + n → calls_at m R r t ≡ true → found s t ≡ true
    pub rules : (q : ℕ) → found s q ≡ true → (waits s.waiting.items q ≡ true)
        ⊎ ((t : ℕ) → a ≤ t → t < a + n → calls_at m R q t ≡ true → found s t ≡ true)

  -- where a find comes from
  whence : (x o b f : Bool) → x ≡ (o || (b && f)) → x ≡ true → (o ≡ true) ⊎ (f ≡ true)
  whence x o b f e t = either o (b && f) (λ y. inl y) (λ y. inr (both b f y).1) (sym e ∙ t)

  inside : (s : BlockSearch) (t : ℕ) → s.start ≡ a → length s.marks.items ≡ n → a ≤ t → t < a + n → in_block s t ≡ true
  inside s t st long le lt =
      paired (nat_le s.start t) (nat_lt (t - s.start) (length s.marks.items)) (le_on s.start t (omega (arith, st)))
      (lt_on (t - s.start) (length s.marks.items) (omega (arith, st, long)))

  finds : (s s1 : BlockSearch) (f : ℕ → Bool) (t : ℕ) → Finds f s s1 → s.start ≡ a → length s.marks.items ≡ n → a ≤ t
      → t < a + n → f t ≡ true → found s1 t ≡ true
  finds s s1 f t h st long le lt e = h.marks t
      ∙ right (found s t) (in_block s t && f t) (paired (in_block s t) (f t) (inside s t st long le lt) e)

  keeps : (s s1 : BlockSearch) (f : ℕ → Bool) (t : ℕ) → Finds f s s1 → found s t ≡ true → found s1 t ≡ true
  keeps s s1 f t h e = h.marks t ∙ left (found s t) (in_block s t && f t) e

  pub follow_begins : (s s1 : BlockSearch) → s.start ≡ a → length s.marks.items ≡ n
      → ((t : ℕ) → marked s.marks.items t ≡ false) → s.waiting.items ≡ [] → Finds (λ t. calls_at m R r t) s s1
      → Followed s1
  follow_begins s s1 st long unset none h = record {
    start = h.start ∙ st;
    long = h.long ∙ long;
    under = λ k f t e. ⊎_elim (λ o. clash (found s t) o (off t)) (λ c. f.first t c)
        (whence (found s1 t) (found s t) (in_block s t) (calls_at m R r t) (h.marks t) e);
    known = λ t w. either (waits s.waiting.items t) (found s1 t && not (found s t))
        (λ x. clash (waits s.waiting.items t) x (ap (λ l. waits l t) none))
        (λ x. (both (found s1 t) (not (found s t)) x).0) (sym (h.waiting t) ∙ w);
    first = λ t le lt e. finds s s1 (λ t. calls_at m R r t) t h st long le lt e;
    rules = λ q e. inl (h.waiting q
        ∙ right (waits s.waiting.items q) (found s1 q && not (found s q))
        (paired (found s1 q) (not (found s q)) e (ap not (off q))));
  }
    where
      off : (t : ℕ) → found s t ≡ false
      off t = ap (λ b. nat_le s.start t && b) (unset (t - s.start)) ∙ and_false (nat_le s.start t)
        where
          and_false : (b : Bool) → (b && false) ≡ false
          and_false true = refl
          and_false false = refl

  -- one rule that waited is looked at
  pub follow_on : (s s1 s2 : BlockSearch) (q : ℕ) → Followed s → s.waiting.items ≡ s1.waiting.items ++ q ∷ []
      → s1.marks.items ≡ s.marks.items → s1.start ≡ s.start → Finds (λ t. calls_at m R q t) s1 s2 → Followed s2
  follow_on s s1 s2 q k rest same st h = record {
    start = h.start ∙ st ∙ k.start;
    long = h.long ∙ long1;
    under = λ c f t e. ⊎_elim (λ o. k.under c f t (old t o))
        (λ x. f.further q t
        (k.under c f q (k.known q (waited q (right (waits s1.waiting.items q) (nat_eq q q) (eq_self q))))) x)
        (whence (found s2 t) (found s1 t) (in_block s1 t) (calls_at m R q t) (h.marks t) e);
    known = λ t w. either (waits s1.waiting.items t) (found s2 t && not (found s1 t))
        (λ x. on t (k.known t (waited t (left (waits s1.waiting.items t) (nat_eq q t) x))))
        (λ x. (both (found s2 t) (not (found s1 t)) x).0) (sym (h.waiting t) ∙ w);
    first = λ t le lt e. on t (k.first t le lt e);
    rules = λ x e. go x e (found s1 x) refl;
  }
    where
      long1 : length s1.marks.items ≡ n
      long1 = ap length same ∙ k.long

      as_before : (t : ℕ) → found s1 t ≡ found s t
      as_before t = ap (λ a. nat_le a t && marked s1.marks.items (t - a)) st
          ∙ ap (λ l. nat_le s.start t && marked l (t - s.start)) same

      old : (t : ℕ) → found s1 t ≡ true → found s t ≡ true
      old t e = sym (as_before t) ∙ e

      on : (t : ℕ) → found s t ≡ true → found s2 t ≡ true
      on t e = keeps s1 s2 (λ t. calls_at m R q t) t h (as_before t ∙ e)

      waited : (t : ℕ) → (waits s1.waiting.items t || nat_eq q t) ≡ true → waits s.waiting.items t ≡ true
      waited t e = ap (λ l. waits l t) rest ∙ waits_more s1.waiting.items q t ∙ e

      Looked : ℕ → Type 0
      Looked x = (t : ℕ) → a ≤ t → t < a + n → calls_at m R x t ≡ true → found s2 t ≡ true

      go : (x : ℕ) → found s2 x ≡ true → (b : Bool) → found s1 x ≡ b → (waits s2.waiting.items x ≡ true) ⊎ Looked x
      go x e false off = inl (h.waiting x
          ∙ right (waits s1.waiting.items x) (found s2 x && not (found s1 x))
          (paired (found s2 x) (not (found s1 x)) e (ap not off)))
      go x e true was = ⊎_elim waiting (λ l. inr (λ t le lt c. on t (l t le lt c))) (k.rules x (old x was))
        where
          waiting : waits s.waiting.items x ≡ true → (waits s2.waiting.items x ≡ true) ⊎ Looked x
          waiting w =
              either (waits s1.waiting.items x) (nat_eq q x) (λ y. inl (h.waiting x
              ∙ left (waits s1.waiting.items x) (found s2 x && not (found s1 x)) y))
              (λ y. inr (λ t le lt c. finds s1 s2 (λ t. calls_at m R q t) t h (st
              ∙ k.start) long1 le lt (subst (λ z. calls_at m R z t ≡ true) (sym (eq_of q x y)) c)))
              (sym (waits_more s1.waiting.items q x) ∙ sym (ap (λ l. waits l x) rest) ∙ w)

  -- nothing waits any more
  pub follow_ends : (s : BlockSearch) (k : ℕ → Bool) → a ≤ r → r < a + n → CallsBefore R a → CallsBefore R (a + n)
      → s.waiting.items ≡ [] → Followed s → IsLeast (Follows R m r) k → marked s.marks.items (r - a) ≡ k r
  follow_ends s k le lt early calls none h least =
      same_tests (marked s.marks.items (r - a)) (k r) (λ e. h.under k least.solution r (at_r ∙ e)) (λ e. sym at_r
      ∙ reached (least.least (closed_set a s) closed r e))
    where
      at_r : found s r ≡ marked s.marks.items (r - a)
      at_r = ap (λ x. nat_le x r && marked s.marks.items (r - x)) h.start
          ∙ ap (λ b. b && marked s.marks.items (r - a)) (le_on a r le)

      reached : closed_set a s r ≡ true → found s r ≡ true
      reached e = either (nat_lt r a) (found s r) (λ x. absurd (let l = lt_of r a x in omega arith)) (λ x. x) e

      found_in : (q : ℕ) → found s q ≡ true → q < a + n
      found_in q e = ⊎_elim (λ l. l)
          (λ ge. clash (marked s.marks.items (q - s.start))
          (both (nat_le s.start q) (marked s.marks.items (q - s.start))
          e).1 (get_or_past s.marks.items (q - s.start) false (let z = h.start in omega (arith, h.long))))
          (cases_lt q (a + n))

      in_set : (t : ℕ) → (a ≤ t → found s t ≡ true) → closed_set a s t ≡ true
      in_set t f = ⊎_elim (λ l. left (nat_lt t a) (found s t) (lt_on t a l)) (λ l. right (nat_lt t a) (found s t) (f l))
          (cases_lt t a)

      closed : Follows R m r (closed_set a s)
      closed = record {
        first = λ t e. in_set t (λ l. h.first t l (called_before R m (a + n) r t calls lt e) e);
        further = λ q t x e. either (nat_lt q a) (found s q)
            (λ y. left (nat_lt t a) (found s t) (lt_on t a (called_before R m a q t early (lt_of q a y) e)))
            (λ y. in_set t (λ l. looked q t l y e)) x;
      }
        where
          looked : (q t : ℕ) → a ≤ t → found s q ≡ true → calls_at m R q t ≡ true → found s t ≡ true
          looked q t l y e =
              ⊎_elim (λ w. clash (waits s.waiting.items q) w (ap (λ l. waits l q) none))
              (λ f. f t l (called_before R m (a + n) q t calls (found_in q y) e) e) (h.rules q y)

-- The last test, and what it says.
use Rattle.std.proofs.Common.{◌≡◌, ℕ, zero, suc, ◌+◌, ◌<◌, ◌≤◌, List, [], ◌∷◌, length, get_or, Option, Some, None, refl}
use Rattle.std.proofs.Common.{sym, ap, ◌∙◌, subst, arith, inl, inr, ⊎_elim}
use Rattle.std.proofs.lemmas.Bool.{cases_eq, eqb-true, eq-eqb, ne_eqb, leb-true, le-leb, and_parts}
use Rattle.std.proofs.lemmas.Option.{slice_get-get_or}
use Rattle.std.specs.Prelude.{◌≢◌, ◌⊎◌, Bool, true, false, not, ◌||◌, ◌&&◌, nat_eq, nat_le, if◌then◌else◌, slice_get}
use Rattle.rpl_core.specs.Instr.{Instr}
use Rattle.rpl_core.specs.Instr as I
use Rattle.rpl_safe.specs.Safe.{Shape, Shapes, Given, next, given_by, next_in, Avoids, IsKept, IsOpen, CallsTree}
use Rattle.rpl_safe.specs.Safe.{IsSafe}
use Rattle.rpl_safe.specs.declared.marks.Mark.{Mark}
use Rattle.rpl_safe.specs.inside.Marks.{Marks, marks_at, MarksGiven, next_mark, Is, Complete, HasNone, is_finish}
use Rattle.rpl_safe.specs.inside.Marks.{is_return, is_open, is_call, ends, inside_test, alone_test, avoids, tree_test}
use Rattle.rpl_safe.specs.inside.Marks.{AllPass, Answers, Heads, holds, opens_in, finishes_in, called_by, call_at}
use Rattle.rpl_safe.specs.inside.Marks.{call_in, head_call, head_of}
use Rattle.rpl_safe.proofs.Stacks.{Related, related_is, same_some}
use Rattle.rpl_safe.proofs.Puts.{marked_inside}
use Rattle.rpl_safe.proofs.Ending.{least, least_of, least_kept}

gate_from : (x y u v : Bool) → (not x || (not y || (u || v))) ≡ true → x ≡ true → y ≡ true → (u ≡ true) ⊎ (v ≡ true)
gate_from true true true v e p q = inl refl
gate_from true true false v e p q = inr e
gate_from true false u v e p q = absurd (cc)
gate_from false y u v e p q = absurd (cc)

gate_to : (x y u v : Bool) → (x ≡ true → y ≡ true → (u ≡ true) ⊎ (v ≡ true)) → (not x || (not y || (u || v))) ≡ true
gate_to false y u v h = refl
gate_to true false u v h = refl
gate_to true true true v h = refl
gate_to true true false v h = ⊎_elim (λ e. absurd (cc)) (λ e. e) (h refl refl)

door_from : (x u : Bool) → (not x || u) ≡ true → x ≡ true → u ≡ true
door_from true u e p = e
door_from false u e p = absurd (cc)

door_to : (x u : Bool) → (x ≡ true → u ≡ true) → (not x || u) ≡ true
door_to true u h = h refl
door_to false u h = refl

both : (x y : Bool) → x ≡ true → y ≡ true → (x && y) ≡ true
both true y p q = q
both false y p q = absurd (cc)

or_which : (x y : Bool) → (x || y) ≡ true → (x ≡ true) ⊎ (y ≡ true)
or_which true y e = inl refl
or_which false y e = inr e

or_to : (x y : Bool) → (x ≡ true) ⊎ (y ≡ true) → (x || y) ≡ true
or_to true y h = refl
or_to false y (inl e) = absurd (cc)
or_to false y (inr e) = e

-- an instruction that the test finds to be a finish is one
pub finish_of : (i : Instr) → is_finish i ≡ true → i ≡ I.Finish
finish_of I.Finish e = refl
finish_of _ e = absurd (cc)

-- an instruction that the test finds to be a return is one
pub return_of : (i : Instr) → is_return i ≡ true → i ≡ I.Return
return_of I.Return e = refl
return_of _ e = absurd (cc)

-- an instruction that the test finds to be a call of an address is that call
pub call_of : (c : ℕ) (i : Instr) → is_call c i ≡ true → i ≡ I.Call c
call_of c (I.Call l) e = ap I.Call (eqb-true l c e)
call_of c _ e = absurd (cc)

pub open_of : (i : Instr) → is_open i ≡ true → (l : List ℕ) × (i ≡ I.Open l)
open_of (I.Open l) e = (l, refl)
open_of _ e = absurd (cc)

-- the instruction that ends a frame
ends_first : (i : Instr) → ends 0 i ≡ true → i ≡ I.Finish
ends_first i e = finish_of i e

ends_other : (c : ℕ) (i : Instr) → c ≢ 0 → ends c i ≡ true → i ≡ I.Return
ends_other c i ne e = return_of i (sym (ap (λ b. if b then is_finish i else is_return i) (ne_eqb c 0 ne)) ∙ e)

ends_at : (c : ℕ) → c ≢ 0 → ends c I.Return ≡ true
ends_at c ne = ap (λ b. if b then is_finish I.Return else is_return I.Return) (ne_eqb c 0 ne)

-- what the test says of marks
inside_from : (f : ℕ) (i : Instr) (a : ℕ) (m : Mark) → inside_test f i a m ≡ true → m.frame ≡ f → m.trees ≡ 0
    → (a ≡ f) ⊎ (ends f i ≡ true)
inside_from f i a m e p q =
    ⊎_elim (λ x. inl (eqb-true a f x)) (λ x. inr x) (gate_from (nat_eq m.frame f) (nat_eq m.trees 0) (nat_eq a f)
    (ends f i) e (eq-eqb m.frame f p) (eq-eqb m.trees 0 q))

inside_to : (f : ℕ) (i : Instr) (a : ℕ) (m : Mark) → (m.frame ≡ f → m.trees ≡ 0 → (a ≡ f) ⊎ (ends f i ≡ true))
    → inside_test f i a m ≡ true
inside_to f i a m h =
    gate_to (nat_eq m.frame f) (nat_eq m.trees 0) (nat_eq a f) (ends f i)
    (λ p q. ⊎_elim (λ x. inl (eq-eqb a f x)) (λ x. inr x) (h (eqb-true m.frame f p) (eqb-true m.trees 0 q)))

alone_from : (a : ℕ) (m : Mark) → alone_test a m ≡ true → m.frame ≡ 0 → (a ≡ 0) ⊎ (a ≡ 1)
alone_from a m e p = low a (leb-true a 1 (door_from (nat_eq m.frame 0) (nat_le a 1) e (eq-eqb m.frame 0 p)))
  where
    low : (b : ℕ) → b ≤ 1 → (b ≡ 0) ⊎ (b ≡ 1)
    low zero le = inl refl
    low (suc zero) le = inr refl
    low (suc (suc b)) le = absurd (omega (arith, le))

alone_to : (a : ℕ) (m : Mark) → (m.frame ≡ 0 → (a ≡ 0) ⊎ (a ≡ 1)) → alone_test a m ≡ true
alone_to a m h = door_to (nat_eq m.frame 0) (nat_le a 1)
    (λ p. le-leb a 1 (⊎_elim (λ x. omega (arith, x)) (λ x. omega (arith, x)) (h (eqb-true m.frame 0 p))))

not_eq : (a c : ℕ) → not (nat_eq a c) ≡ true → a ≢ c
not_eq a c e p = let q = eq-eqb a c p in absurd (let z : true ≡ false = sym e ∙ ap not q in cc)

eq_not : (a c : ℕ) → a ≢ c → not (nat_eq a c) ≡ true
eq_not a c ne = ap not (ne_eqb a c ne)

-- the addresses of shapes and of marks are the same
avoids_from : (n : ℕ) (f : Marks) (c : ℕ) (o : Option MarksGiven) (g : Given) → Related n f o (Some g)
    → avoids c o ≡ true → Avoids c g
avoids_from n f c None g r e = absurd (cc)
avoids_from n f c (Some []) g r e = let z : g ≡ [] = same_some g [] r in subst (Avoids c) (sym z) tt
avoids_from n f c (Some (x ∷ [])) g r e = let z = same_some g ((x.0, r.0) ∷ []) r.1 in
    subst (Avoids c) (sym z) (not_eq x.0 c e, tt)
avoids_from n f c (Some (x ∷ y ∷ [])) g r e =
    let z = same_some g ((x.0, r.0) ∷ (y.0, r.1) ∷ []) r.2 in
    let p = and_parts (not (nat_eq x.0 c)) (not (nat_eq y.0 c)) e in
    subst (Avoids c) (sym z) (not_eq x.0 c p.0, (not_eq y.0 c p.1, tt))
avoids_from n f c (Some (x ∷ y ∷ z ∷ gs)) g r e = absurd r

avoids_to : (n : ℕ) (f : Marks) (c : ℕ) (o : Option MarksGiven) (g : Given) → Related n f o (Some g) → Avoids c g
    → avoids c o ≡ true
avoids_to n f c None g r e = refl
avoids_to n f c (Some []) g r e = refl
avoids_to n f c (Some (x ∷ [])) g r e = let z = same_some g ((x.0, r.0) ∷ []) r.1 in let h = subst (Avoids c) z e in
    eq_not x.0 c h.0
avoids_to n f c (Some (x ∷ y ∷ [])) g r e =
    let z = same_some g ((x.0, r.0) ∷ (y.0, r.1) ∷ []) r.2 in
    let h = subst (Avoids c) z e in
    both (not (nat_eq x.0 c)) (not (nat_eq y.0 c)) (eq_not x.0 c h.0) (eq_not y.0 c h.1.0)
avoids_to n f c (Some (x ∷ y ∷ z ∷ gs)) g r e = absurd r

module _ (code : List Instr) (ms : List (Option Mark)) (h : Complete code ms) where
  -- each address with a mark has an instruction
  instr_there : (a : ℕ) (m : Mark) → marks_at ms a ≡ Some m → (i : Instr) × (slice_get code a ≡ Some i)
  instr_there a m e =
      let lt = marked_inside ms a m e in
      (get_or code a I.Halt, slice_get-get_or code a I.Halt (omega (arith, lt, h.known.long)))

  rel : (a : ℕ) (m : Mark) (s : Shape) (i : Instr) → marks_at ms a ≡ Some m → Is (marks_at ms) m s
      → Related (length ms) (marks_at ms) (next_mark (marks_at ms) i a m) (next i a s)
  rel a m s i e is = related_is (marks_at ms) (length ms) (λ b x q. let w = h.known.room b x q in
      omega (arith, w)) m s is (let w = h.known.room a m e in omega (arith, w)) i a

  abbrev low : Shapes
  low = least code ms h.known

  low_kept : IsKept code low
  low_kept = least_kept code ms h.known h.follows

  -- the code is safe where the test passes
  pub safe_open : (l : List ℕ) → slice_get code 0 ≡ Some (I.Open l) → AllPass (marks_at ms) None code → IsSafe code
  safe_open l opens pass = record {
    shapes = low;
    kept = low_kept;
    tree = inl (record { label = l; opens = opens; inside = inside });
  }
    where
      inside : IsOpen code low 0 I.Finish
      inside a s e p q =
          let m = least_of code ms h.known a s e in
          let i = instr_there a m.0 m.1 in
          ⊎_elim (λ x. inl x) (λ x. inr (i.1 ∙ ap Some (ends_first i.0 x)))
          (inside_from 0 i.0 a m.0 (pass a m.0 i.0 m.1 i.1) (m.2.frame ∙ p) (m.2.trees ∙ q))

  pub safe_call : (c : ℕ) (l : List ℕ) → slice_get code 0 ≡ Some (I.Call c) → slice_get code 1 ≡ Some I.Finish
      → slice_get code c ≡ Some (I.Open l) → AllPass (marks_at ms) (Some c) code → IsSafe code
  safe_call c l calls end opens pass = record {
    shapes = low;
    kept = low_kept;
    tree = inr (record {
      called = c;
      label = l;
      calls = calls;
      ends = end;
      opens = opens;
      alone = alone;
      only_called = only_called;
      inside = inside;
    });
  }
    where
      apart : c ≢ 0
      apart z = let two : Some (I.Call c) ≡ Some (I.Open l) = sym calls ∙ ap (slice_get code) (sym z) ∙ opens in
          absurd (cc)

      parts : (a : ℕ) (m : Mark) (i : Instr) → marks_at ms a ≡ Some m → slice_get code a ≡ Some i
          → (alone_test a m ≡ true) × (inside_test c i a m ≡ true)
          × ((is_call c i || avoids c (next_mark (marks_at ms) i a m)) ≡ true)
      parts a m i e f =
          let p = and_parts (alone_test a m) (inside_test c i a m
          && (is_call c i || avoids c (next_mark (marks_at ms) i a m))) (pass a m i e f) in
          let q = and_parts (inside_test c i a m) (is_call c i || avoids c (next_mark (marks_at ms) i a m)) p.1 in
          (p.0, q.0, q.1)

      alone : (a : ℕ) (s : Shape) → low a ≡ Some s → s.frame ≡ 0 → (a ≡ 0) ⊎ (a ≡ 1)
      alone a s e p =
          let m = least_of code ms h.known a s e in
          let i = instr_there a m.0 m.1 in
          alone_from a m.0 (parts a m.0 i.0 m.1 i.1).0 (m.2.frame ∙ p)

      inside : IsOpen code low c I.Return
      inside a s e p q =
          let m = least_of code ms h.known a s e in
          let i = instr_there a m.0 m.1 in
          ⊎_elim (λ x. inl x) (λ x. inr (i.1 ∙ ap Some (ends_other c i.0 apart x)))
          (inside_from c i.0 a m.0 (parts a m.0 i.0 m.1 i.1).1 (m.2.frame ∙ p) (m.2.trees ∙ q))

      only_called : (a : ℕ) (s : Shape) (given : Given) → low a ≡ Some s → next_in code a s ≡ Some given
          → (slice_get code a ≡ Some (I.Call c)) ⊎ Avoids c given
      only_called a s given e by =
          let m = least_of code ms h.known a s e in
          let i = instr_there a m.0 m.1 in
          let by2 : next i.0 a s ≡ Some given = sym (ap (λ o. given_by o a s) i.1) ∙ by in
          let r = subst (Related (length ms) (marks_at ms) (next_mark (marks_at ms) i.0 a m.0)) by2
          (rel a m.0 s i.0 m.1 m.2) in
          ⊎_elim (λ x. inl (i.1 ∙ ap Some (call_of c i.0 x)))
          (λ x. inr (avoids_from (length ms) (marks_at ms) c (next_mark (marks_at ms) i.0 a m.0) given r x))
          (or_which (is_call c i.0) (avoids c (next_mark (marks_at ms) i.0 a m.0)) (parts a m.0 i.0 m.1 i.1).2)

  -- and where it is, the test passes
  pub open_passes : (l : List ℕ) → slice_get code 0 ≡ Some (I.Open l) → IsSafe code → AllPass (marks_at ms) None code
  open_passes l opens safe a m i e f = ⊎_elim
      (λ tree.
      let s = h.known.lists a m e in
      let there = h.known.forced safe.shapes safe.kept a m s.0 e s.1 in
      inside_to 0 i a m (λ p q. ⊎_elim (λ x. inl x) (λ x. inr (ap (ends 0) (same_some i I.Finish (sym f ∙ x))))
      (tree.inside a s.0 there (sym s.1.frame ∙ p) (sym s.1.trees ∙ q))))
      (λ tree. let two : Some (I.Open l) ≡ Some (I.Call tree.called) = sym opens ∙ tree.calls in absurd (cc))
      safe.tree

  pub call_parts : (c : ℕ) → slice_get code 0 ≡ Some (I.Call c) → IsSafe code → (slice_get code 1 ≡ Some I.Finish)
      × ((l : List ℕ) × (slice_get code c ≡ Some (I.Open l))) × AllPass (marks_at ms) (Some c) code
  call_parts c calls safe = ⊎_elim
      (λ tree. let two : Some (I.Open tree.label) ≡ Some (I.Call c) = sym tree.opens ∙ calls in absurd (cc))
      (λ tree. by_tree tree)
      safe.tree
    where
      by_tree : CallsTree code safe.shapes → (slice_get code 1 ≡ Some I.Finish)
          × ((l : List ℕ) × (slice_get code c ≡ Some (I.Open l))) × AllPass (marks_at ms) (Some c) code
      by_tree tree = (tree.ends, (tree.label, ap (slice_get code) same ∙ tree.opens), pass)
        where
          two : Some (I.Call c) ≡ Some (I.Call tree.called)
          two = sym calls ∙ tree.calls

          same : c ≡ tree.called
          same = let t = two in cc

          apart : c ≢ 0
          apart z = let t : Some (I.Call c) ≡ Some (I.Open tree.label) = sym calls ∙ ap (slice_get code) (sym z ∙ same)
              ∙ tree.opens in absurd (cc)

          pass : AllPass (marks_at ms) (Some c) code
          pass a m i e f =
              let s = h.known.lists a m e in
              let there = h.known.forced safe.shapes safe.kept a m s.0 e s.1 in
              let g = safe.kept.goes_on a s.0 there in
              let by2 : next i a s.0 ≡ Some g.0 = sym (ap (λ o. given_by o a s.0) f) ∙ g.1 in
              let r = subst (Related (length ms) (marks_at ms) (next_mark (marks_at ms) i a m)) by2
              (rel a m s.0 i e s.1) in
              both (alone_test a m) (inside_test c i a m && (is_call c i || avoids c (next_mark (marks_at ms) i a m)))
              (alone_to a m (λ p. tree.alone a s.0 there (sym s.1.frame ∙ p)))
              (both (inside_test c i a m) (is_call c i || avoids c (next_mark (marks_at ms) i a m))
              (inside_to c i a m (λ p q. ⊎_elim (λ x. inl (x ∙ sym same))
              (λ x. inr (ap (ends c) (same_some i I.Return (sym f ∙ x)) ∙ ends_at c apart))
              (tree.inside a s.0 there (sym s.1.frame ∙ p ∙ same) (sym s.1.trees ∙ q))))
              (or_to (is_call c i) (avoids c (next_mark (marks_at ms) i a m)) (⊎_elim
              (λ x. inl (ap (is_call c) (same_some i (I.Call tree.called) (sym f ∙ x))
              ∙ eq-eqb tree.called c (sym same)))
              (λ x. inr (avoids_to (length ms) (marks_at ms) c (next_mark (marks_at ms) i a m) g.0 r
              (subst (λ n. Avoids n g.0) (sym same) x)))
              (tree.only_called a s.0 g.0 there g.1))))

-- the answer of the last test is that of the whole
pub decide : (code : List Instr) (ms : List (Option Mark)) (called : Option ℕ) (b : Bool) → Complete code ms
    → Heads code (Some called) → Answers b (AllPass (marks_at ms) called code) → Answers b (IsSafe code)
decide code ms None true h k p = safe_open code ms h k.0 k.1 p
decide code ms None false h k p = λ safe. p (open_passes code ms h k.0 k.1 safe)
decide code ms (Some c) true h k p = safe_call code ms h c k.2.0 k.0 k.1 k.2.1 p
decide code ms (Some c) false h k p = λ safe. let x = call_parts code ms h c k.0 safe in p x.2

-- where there is no way there is no safe one
pub none_safe : (code : List Instr) → HasNone code → IsSafe code → ⊥
none_safe code none safe = none safe.shapes safe.kept

-- how the code has to begin
pub head_some : (code : List Instr) (c : ℕ) → slice_get code 0 ≡ Some (I.Call c) → IsSafe code
    → (slice_get code 1 ≡ Some I.Finish) × ((l : List ℕ) × (slice_get code c ≡ Some (I.Open l)))
head_some code c calls safe = ⊎_elim
    (λ tree. let two : Some (I.Open tree.label) ≡ Some (I.Call c) = sym tree.opens ∙ calls in absurd (cc))
    (λ tree. let two : Some (I.Call c) ≡ Some (I.Call tree.called) = sym calls ∙ tree.calls in
    let same : c ≡ tree.called = cc in (tree.ends, (tree.label, ap (slice_get code) same ∙ tree.opens)))
    safe.tree

pub head_first : (code : List Instr) → IsSafe code → ((l : List ℕ) × (slice_get code 0 ≡ Some (I.Open l)))
    ⊎ ((c : ℕ) × (slice_get code 0 ≡ Some (I.Call c)))
head_first code safe = ⊎_elim (λ tree. inl (tree.label, tree.opens)) (λ tree. inr (tree.called, tree.calls)) safe.tree

-- an address where the test finds an open has an open of some label
pub opens_there : (code : List Instr) (a : ℕ) (o : Option Instr) → slice_get code a ≡ o → holds is_open o ≡ true
    → (l : List ℕ) × (slice_get code a ≡ Some (I.Open l))
opens_there code a None e q = absurd (cc)
opens_there code a (Some i) e q = let l = open_of i q in (l.0, e ∙ ap Some l.1)

finish_there : (code : List Instr) (a : ℕ) (o : Option Instr) → slice_get code a ≡ o → holds is_finish o ≡ true
    → slice_get code a ≡ Some I.Finish
finish_there code a None e q = absurd (cc)
finish_there code a (Some i) e q = e ∙ ap Some (finish_of i q)

called_of : (i : Instr) (c : ℕ) → called_by i ≡ Some c → i ≡ I.Call c
called_of (I.Call l) c e = let z : l ≡ c = cc in ap I.Call z
called_of _ c e = absurd (cc)

-- if the first instruction of a code is found to call an address, the code begins with that call
pub call_there : (code : List Instr) (o : Option Instr) (c : ℕ) → slice_get code 0 ≡ o → call_at o ≡ Some c
    → slice_get code 0 ≡ Some (I.Call c)
call_there code None c e q = absurd (cc)
call_there code (Some i) c e q = e ∙ ap Some (called_of i c q)

no_call : (code : List Instr) → opens_in code 0 ≡ false → call_in code ≡ None → IsSafe code → ⊥
no_call code o e safe = ⊎_elim
    (λ x. let z : true ≡ false = sym (ap (holds is_open) x.1) ∙ o in absurd (cc))
    (λ x. let z : Some x.0 ≡ None = sym (ap call_at x.1) ∙ e in absurd (cc))
    (head_first code safe)

-- what the head says
pub heads_hold : (code : List Instr) → Heads code (head_of code)
heads_hold code = by_open (opens_in code 0) refl
  where
    by_both : (c : ℕ) → call_in code ≡ Some c → (x y : Bool) → finishes_in code 1 ≡ x → opens_in code c ≡ y
        → Heads code (if x && y then Some (Some c) else None)
    by_both c e true true p q = (
      call_there code (slice_get code 0) c refl e,
      finish_there code 1 (slice_get code 1) refl p,
      opens_there code c (slice_get code c) refl q,
    )
    by_both c e false y p q = λ safe. let h = head_some code c (call_there code (slice_get code 0) c refl e) safe in
        let z : true ≡ false = sym (ap (holds is_finish) h.0) ∙ p in absurd (cc)
    by_both c e true false p q = λ safe. let h = head_some code c (call_there code (slice_get code 0) c refl e) safe in
        let z : true ≡ false = sym (ap (holds is_open) h.1.1) ∙ q in absurd (cc)

    by_call : (o : Option ℕ) → call_in code ≡ o → opens_in code 0 ≡ false → Heads code (head_call code o)
    by_call None e p = no_call code p e
    by_call (Some c) e p = by_both c e (finishes_in code 1) (opens_in code c) refl refl

    by_open : (b : Bool) → opens_in code 0 ≡ b → Heads code (if b then Some None else head_call code (call_in code))
    by_open true e = opens_there code 0 (slice_get code 0) refl e
    by_open false e = by_call (call_in code) refl e

pub head_open : (code : List Instr) → opens_in code 0 ≡ true → head_of code ≡ Some None
head_open code e = ap (λ b. if b then Some None else head_call code (call_in code)) e

pub head_none : (code : List Instr) → opens_in code 0 ≡ false → call_in code ≡ None → head_of code ≡ None
head_none code e q = ap (λ b. if b then Some None else head_call code (call_in code)) e ∙ ap (head_call code) q

pub head_if : (code : List Instr) (c : ℕ) (x y : Bool) → opens_in code 0 ≡ false → call_in code ≡ Some c
    → finishes_in code 1 ≡ x → opens_in code c ≡ y → head_of code ≡ (if x && y then Some (Some c) else None)
head_if code c x y e q p r =
    ap (λ b. if b then Some None else head_call code (call_in code)) e ∙ ap (head_call code) q
    ∙ ap (λ b. if b && opens_in code c then Some (Some c) else None) p
    ∙ ap (λ b. if x && b then Some (Some c) else None) r

pub head_unless : (code : List Instr) (c : ℕ) → opens_in code 0 ≡ false → call_in code ≡ Some c
    → finishes_in code 1 ≡ false → head_of code ≡ None
head_unless code c e q p = head_if code c false (opens_in code c) e q p refl

-- one address more passes
pub pass_more : (code : List Instr) (f : Marks) (called : Option ℕ) (n : ℕ)
    → ((a : ℕ) (m : Mark) (i : Instr) → a < n → f a ≡ Some m → slice_get code a ≡ Some i
    → tree_test f called i a m ≡ true) → ((m : Mark) (i : Instr) → f n ≡ Some m → slice_get code n ≡ Some i
    → tree_test f called i n m ≡ true) → (a : ℕ) (m : Mark) (i : Instr) → a < n + 1 → f a ≡ Some m
    → slice_get code a ≡ Some i → tree_test f called i a m ≡ true
pass_more code f called n before here a m i lt e q = ⊎_elim
    (λ same. subst (λ x. tree_test f called i x m ≡ true) (sym same) (here m i (ap f (sym same)
    ∙ e) (ap (slice_get code) (sym same) ∙ q)))
    (λ ne. before a m i (omega (arith, lt, ne)) e q)
    (cases_eq a n)

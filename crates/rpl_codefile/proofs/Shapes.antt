-- Each code is safe, or isn't: the shapes that are forced are found one by one, until no further one is, or until two
-- clash.
use Rattle.std.proofs.Common.{◌≡◌, ℕ, zero, suc, ◌<◌, ◌≤◌, List, [], ◌∷◌, length, get_or, set, replicate, Option, Some}
use Rattle.std.proofs.Common.{None, refl, sym, ap, ◌∙◌, subst, arith, inl, inr, ⊎_elim, length-set, get_or-set_same}
use Rattle.std.proofs.Common.{get_or-set_other}
use Rattle.std.proofs.lemmas.Bool.{cases_eq, cases_lt, eq-eqb}
use Rattle.std.proofs.lemmas.Option.{slice_get_past}
use Rattle.std.specs.Prelude.{◌⊎◌, Bool, true, false, slice_get}
use Rattle.rpl_core.specs.Instr.{Instr}
use Rattle.rpl_core.specs.Instr as I
use Rattle.rpl_safe.specs.Safe.{Left, Shape, Shapes, Given, fresh, given_by, next_in, AreIn, Avoids, IsKept, IsOpen}
use Rattle.rpl_safe.specs.Safe.{IsTree, CallsTree, IsSafe}
use Rattle.rpl_safe.specs.inside.Marks.{HasNone, is_finish, is_return, is_open, is_call, holds, call_at}
use Rattle.rpl_safe.proofs.Stacks.{same_some}
use Rattle.rpl_safe.proofs.Testing.{finish_of, return_of, call_of, opens_there, call_there}

-- it holds, or it doesn't
abbrev pub Dec : Type 0 → Type 0
Dec P = P ⊎ (P → ⊥)

pub dec_both : {P Q : Type 0} → Dec P → Dec Q → Dec (P × Q)
dec_both (inl p) (inl q) = inl (p, q)
dec_both (inl p) (inr n) = inr (λ h. n h.1)
dec_both (inr n) q = inr (λ h. n h.0)

pub dec_or : {P Q : Type 0} → Dec P → Dec Q → Dec (P ⊎ Q)
dec_or (inl p) q = inl (inl p)
dec_or (inr n) (inl q) = inl (inr q)
dec_or (inr n) (inr m) = inr (λ h. ⊎_elim n m h)

pub dec_not : {P : Type 0} → Dec P → Dec (P → ⊥)
dec_not (inl p) = inr (λ n. n p)
dec_not (inr n) = inl n

dec_if : {P Q : Type 0} → Dec P → Dec Q → Dec (P → Q)
dec_if p (inl q) = inl (λ _. q)
dec_if (inl p) (inr n) = inr (λ h. n (h p))
dec_if (inr m) (inr n) = inl (λ p. absurd (m p))

pub dec_iff : {P Q : Type 0} → (P → Q) → (Q → P) → Dec P → Dec Q
dec_iff to from (inl p) = inl (to p)
dec_iff to from (inr n) = inr (λ q. n (from q))

pub dec_below : (P : ℕ → Type 0) → ((a : ℕ) → Dec (P a)) → (n : ℕ) → Dec ((a : ℕ) → a < n → P a)
dec_below P d zero = inl (λ a lt. absurd (omega (arith, lt)))
dec_below P d (suc n) = dec_iff to from (dec_both (dec_below P d n) (d n))
  where
    to : ((a : ℕ) → a < n → P a) × P n → (a : ℕ) → a < suc n → P a
    to h a lt = ⊎_elim (λ e. subst P (sym e) h.1) (λ ne. h.0 a (omega (arith, lt, ne))) (cases_eq a n)

    from : ((a : ℕ) → a < suc n → P a) → ((a : ℕ) → a < n → P a) × P n
    from h = ((λ a lt. h a (omega (arith, lt))), h n (omega arith))

-- ---- the same

pub list_same : {A : Type 0} → ((x y : A) → Dec (x ≡ y)) → (xs ys : List A) → Dec (xs ≡ ys)
list_same d [] [] = inl refl
list_same d [] (y ∷ ys) = inr (λ e. absurd (cc))
list_same d (x ∷ xs) [] = inr (λ e. absurd (cc))
list_same d (x ∷ xs) (y ∷ ys) = dec_iff to from (dec_both (d x y) (list_same d xs ys))
  where
    to : (x ≡ y) × (xs ≡ ys) → x ∷ xs ≡ y ∷ ys
    to h = ap (λ z. z ∷ xs) h.0 ∙ ap (λ zs. y ∷ zs) h.1

    from : x ∷ xs ≡ y ∷ ys → (x ≡ y) × (xs ≡ ys)
    from e = let p : x ≡ y = cc in let q : xs ≡ ys = cc in (p, q)

abbrev left_with : ℕ → ℕ → Left
left_with a t = record { address = a; trees = t }

left_same : (x y : Left) → Dec (x ≡ y)
left_same x y = dec_iff to from (dec_both (cases_eq x.address y.address) (cases_eq x.trees y.trees))
  where
    to : (x.address ≡ y.address) × (x.trees ≡ y.trees) → x ≡ y
    to h = ap (λ a. left_with a x.trees) h.0 ∙ ap (left_with y.address) h.1

    from : x ≡ y → (x.address ≡ y.address) × (x.trees ≡ y.trees)
    from e = (ap (λ (z : Left). z.address) e, ap (λ (z : Left). z.trees) e)

abbrev shape_with : ℕ → List Left → ℕ → Shape
shape_with f es n = record { frame = f; entries = es; trees = n }

shape_same : (s t : Shape) → Dec (s ≡ t)
shape_same s t =
    dec_iff to from
    (dec_both (cases_eq s.frame t.frame)
    (dec_both (list_same left_same s.entries t.entries) (cases_eq s.trees t.trees)))
  where
    to : (s.frame ≡ t.frame) × ((s.entries ≡ t.entries) × (s.trees ≡ t.trees)) → s ≡ t
    to h =
        ap (λ f. shape_with f s.entries s.trees) h.0 ∙ ap (λ es. shape_with t.frame es s.trees) h.1.0
        ∙ ap (shape_with t.frame t.entries) h.1.1

    from : s ≡ t → (s.frame ≡ t.frame) × ((s.entries ≡ t.entries) × (s.trees ≡ t.trees))
    from e = (ap (λ (z : Shape). z.frame) e, (ap (λ (z : Shape). z.entries) e, ap (λ (z : Shape). z.trees) e))

-- ---- the shapes that are found

abbrev shapes_of : List (Option Shape) → Shapes
shapes_of ms a = get_or ms a None

-- how many addresses have none
abbrev empty : List (Option Shape) → ℕ
empty [] = 0
empty (None ∷ ms) = suc (empty ms)
empty (Some s ∷ ms) = empty ms

empty_less : (ms : List (Option Shape)) (b : ℕ) (s : Shape) → b < length ms → shapes_of ms b ≡ None
    → suc (empty (set ms b (Some s))) ≡ empty ms
empty_less [] b s lt e = absurd (omega (arith, lt))
empty_less (None ∷ ms) zero s lt e = refl
empty_less (Some t ∷ ms) zero s lt e = absurd (cc)
empty_less (None ∷ ms) (suc b) s lt e = ap suc (empty_less ms b s (omega (arith, lt)) e)
empty_less (Some t ∷ ms) (suc b) s lt e = empty_less ms b s (omega (arith, lt)) e

inside : (ms : List (Option Shape)) (a : ℕ) (s : Shape) → shapes_of ms a ≡ Some s → a < length ms
inside [] a s e = absurd (cc)
inside (o ∷ ms) zero s e = omega arith
inside (o ∷ ms) (suc a) s e = let h = inside ms a s e in omega (arith, h)

-- each is forced
record Forced (code : List Instr) (ms : List (Option Shape)) : Type 0 where
  long : length ms ≡ length code
  start : shapes_of ms 0 ≡ Some (fresh 0)
  forced : (shapes : Shapes) → IsKept code shapes → (a : ℕ) (s : Shape) → shapes_of ms a ≡ Some s → shapes a ≡ Some s

-- a further one that is forced
record More (code : List Instr) (ms : List (Option Shape)) : Type 0 where
  address : ℕ
  shape : Shape
  within : address < length ms
  unset : shapes_of ms address ≡ None
  all : (shapes : Shapes) → IsKept code shapes → shapes address ≡ Some shape

-- what follows is found
abbrev Goes : List Instr → List (Option Shape) → ℕ → Type 0
Goes code ms a =
    (s : Shape) → shapes_of ms a ≡ Some s → (g : Given) × (next_in code a s ≡ Some g) × AreIn (shapes_of ms) g

module _ (code : List Instr) (ms : List (Option Shape)) (h : Forced code ms) where
  abbrev Else : Type 0
  Else = More code ms ⊎ HasNone code

  place : (b : ℕ) (t : Shape) → ((shapes : Shapes) → IsKept code shapes → shapes b ≡ Some t)
      → (shapes_of ms b ≡ Some t) ⊎ Else
  place b t all = ⊎_elim (λ lt. by_shape lt (shapes_of ms b) refl) (λ far. inr (inr (past far)))
      (cases_lt b (length ms))
    where
      past : length ms ≤ b → HasNone code
      past far shapes kept =
          let x = kept.goes_on b t (all shapes kept) in
          let none : slice_get code b ≡ None = slice_get_past code b (omega (arith, h.long, far)) in
          let z : None ≡ Some x.0 = sym (ap (λ o. given_by o b t) none) ∙ x.1 in
          absurd (cc)

      by_shape : b < length ms → (o : Option Shape) → shapes_of ms b ≡ o → (shapes_of ms b ≡ Some t) ⊎ Else
      by_shape lt None e = inr (inl (record { address = b; shape = t; within = lt; unset = e; all = all }))
      by_shape lt (Some u) e = ⊎_elim
          (λ same. inl (e ∙ ap Some same))
          (λ ne. inr (inr (λ shapes kept. ne (same_some u t (sym (h.forced shapes kept b u e) ∙ all shapes kept)))))
          (shape_same u t)

  givens : (g : Given) → ((shapes : Shapes) → IsKept code shapes → AreIn shapes g) → AreIn (shapes_of ms) g ⊎ Else
  givens [] all = inl tt
  givens (x ∷ g) all = ⊎_elim
      (λ here. ⊎_elim (λ rest. inl (here, rest)) (λ o. inr o) (givens g (λ shapes kept. (all shapes kept).1)))
      (λ o. inr o)
      (place x.0 x.1 (λ shapes kept. (all shapes kept).0))

  look : (a : ℕ) → Goes code ms a ⊎ Else
  look a = by_shape (shapes_of ms a) refl
    where
      by_next : (s : Shape) → shapes_of ms a ≡ Some s → (o : Option Given) → next_in code a s ≡ o → Goes code ms a
          ⊎ Else
      by_next s e None q = inr (inr (λ shapes kept.
          let x = kept.goes_on a s (h.forced shapes kept a s e) in
          let z : None ≡ Some x.0 = sym q ∙ x.1 in
          absurd (cc)))
      by_next s e (Some g) q = ⊎_elim
          (λ are. inl (λ t f.
          subst (λ u. (g : Given) × (next_in code a u ≡ Some g) × AreIn (shapes_of ms) g)
          (same_some s t (sym e ∙ f)) (g, q, are)))
          (λ o. inr o)
          (givens g (λ shapes kept.
          let x = kept.goes_on a s (h.forced shapes kept a s e) in
          subst (AreIn shapes) (same_some x.0 g (sym x.1 ∙ q)) x.2))

      by_shape : (o : Option Shape) → shapes_of ms a ≡ o → Goes code ms a ⊎ Else
      by_shape None e = inl (λ s q. let z : None ≡ Some s = sym e ∙ q in absurd (cc))
      by_shape (Some s) e = by_next s e (next_in code a s) refl

  all_look : (n : ℕ) → ((a : ℕ) → a < n → Goes code ms a) ⊎ Else
  all_look zero = inl (λ a lt. absurd (omega (arith, lt)))
  all_look (suc n) = ⊎_elim
      (λ below. ⊎_elim (λ here. inl (up_to below here)) (λ o. inr o) (look n))
      (λ o. inr o)
      (all_look n)
    where
      up_to : ((a : ℕ) → a < n → Goes code ms a) → Goes code ms n → (a : ℕ) → a < suc n → Goes code ms a
      up_to below here a lt =
          ⊎_elim (λ e. subst (Goes code ms) (sym e) here) (λ ne. below a (omega (arith, lt, ne))) (cases_eq a n)

  -- with the further one
  put : (m : More code ms) → Forced code (set ms m.address (Some m.shape))
  put m = record { long = length-set ms m.address (Some m.shape) ∙ h.long; start = start; forced = forced }
    where
      other : (a : ℕ) → (a ≡ m.address → ⊥) → shapes_of (set ms m.address (Some m.shape)) a ≡ shapes_of ms a
      other a ne = get_or-set_other ms m.address a (Some m.shape) None ne

      there : shapes_of (set ms m.address (Some m.shape)) m.address ≡ Some m.shape
      there = get_or-set_same ms m.address (Some m.shape) None m.within

      start : shapes_of (set ms m.address (Some m.shape)) 0 ≡ Some (fresh 0)
      start = ⊎_elim
          (λ e. let z : None ≡ Some (fresh 0) = sym m.unset ∙ ap (shapes_of ms) (sym e) ∙ h.start in absurd (cc))
          (λ ne. other 0 ne ∙ h.start)
          (cases_eq 0 m.address)

      forced : (shapes : Shapes) → IsKept code shapes → (a : ℕ) (s : Shape)
          → shapes_of (set ms m.address (Some m.shape)) a ≡ Some s → shapes a ≡ Some s
      forced shapes kept a s e = ⊎_elim
          (λ same. ap shapes same ∙ m.all shapes kept ∙ sym there
          ∙ ap (shapes_of (set ms m.address (Some m.shape))) (sym same) ∙ e)
          (λ ne. h.forced shapes kept a s (sym (other a ne) ∙ e))
          (cases_eq a m.address)

-- all that is forced, and it is kept; or nothing is kept
abbrev Least : List Instr → Type 0
Least code =
    (ms : List (Option Shape)) × Forced code ms × ((a : ℕ) → a < length ms → Goes code ms a)

by_look : (code : List Instr) (ms : List (Option Shape)) → Forced code ms → (More code ms → Least code ⊎ HasNone code)
    → ((a : ℕ) → a < length ms → Goes code ms a) ⊎ (More code ms ⊎ HasNone code) → Least code ⊎ HasNone code
by_look code ms h go (inl all) = inl (ms, h, all)
by_look code ms h go (inr (inl m)) = go m
by_look code ms h go (inr (inr none)) = inr none

search : (code : List Instr) (n : ℕ) (ms : List (Option Shape)) → Forced code ms → empty ms ≤ n
    → Least code ⊎ HasNone code
search code zero ms h le = by_look code ms h
    (λ m. let e = empty_less ms m.address m.shape m.within m.unset in absurd (omega (arith, le, e)))
    (all_look code ms h (length ms))
search code (suc n) ms h le = by_look code ms h
    (λ m.
    let e = empty_less ms m.address m.shape m.within m.unset in
    search code n (set ms m.address (Some m.shape)) (put code ms h m) (omega (arith, le, e)))
    (all_look code ms h (length ms))

none_there : (n a : ℕ) → shapes_of (replicate n None) a ≡ None
none_there zero a = refl
none_there (suc n) zero = refl
none_there (suc n) (suc a) = none_there n a

abbrev none_yet : ℕ → List (Option Shape)
none_yet n = replicate n None

first_long : (n : ℕ) → length (none_yet n) ≡ n
first_long zero = refl
first_long (suc n) = ap suc (first_long n)

-- the search begins with the first address
begun : (code : List Instr) → 0 < length code → Forced code (set (none_yet (length code)) 0 (Some (fresh 0)))
begun code lt = record {
  long = length-set (none_yet (length code)) 0 (Some (fresh 0)) ∙ first_long (length code);
  start = there;
  forced = λ shapes kept a s e. ⊎_elim
      (λ same. ap shapes same ∙ kept.start ∙ sym there
      ∙ ap (shapes_of (set (none_yet (length code)) 0 (Some (fresh 0)))) (sym same) ∙ e)
      (λ ne.
      let z : None ≡ Some s = sym (none_there (length code) a)
      ∙ sym (get_or-set_other (none_yet (length code)) 0 a (Some (fresh 0)) None ne) ∙ e in
      absurd (cc))
      (cases_eq a 0);
}
  where
    there : shapes_of (set (none_yet (length code)) 0 (Some (fresh 0))) 0 ≡ Some (fresh 0)
    there = get_or-set_same (none_yet (length code)) 0 (Some (fresh 0)) None
        (omega (arith, lt, first_long (length code)))

-- ---- the last test

instr_dec : (test : Instr → Bool) (end : Instr) → ((i : Instr) → test i ≡ true → i ≡ end) → test end ≡ true
    → (o : Option Instr) → Dec (o ≡ Some end)
instr_dec test end is self None = inr (λ e. absurd (cc))
instr_dec test end is self (Some i) = by_bool (test i) refl
  where
    by_bool : (b : Bool) → test i ≡ b → Dec (Some i ≡ Some end)
    by_bool true e = inl (ap Some (is i e))
    by_bool false e = inr (λ q.
        let same : i ≡ end = cc in
        let z : true ≡ false = sym self ∙ ap test (sym same) ∙ e in
        absurd (cc))

opens_dec : (code : List Instr) (a : ℕ) → Dec ((l : List ℕ) × (slice_get code a ≡ Some (I.Open l)))
opens_dec code a = by_bool (holds is_open (slice_get code a)) refl
  where
    by_bool : (b : Bool) → holds is_open (slice_get code a) ≡ b
        → Dec ((l : List ℕ) × (slice_get code a ≡ Some (I.Open l)))
    by_bool true e = inl (opens_there code a (slice_get code a) refl e)
    by_bool false e = inr (λ x. let z : true ≡ false = sym (ap (holds is_open) x.1) ∙ e in absurd (cc))

avoids_dec : (c : ℕ) (g : Given) → Dec (Avoids c g)
avoids_dec c [] = inl tt
avoids_dec c (x ∷ g) = dec_both (dec_not (cases_eq x.0 c)) (avoids_dec c g)

module _ (code : List Instr) (ms : List (Option Shape)) where
  at_address : (a : ℕ) (P : Shape → Type 0) → ((s : Shape) → Dec (P s))
      → Dec ((s : Shape) → shapes_of ms a ≡ Some s → P s)
  at_address a P d = by_shape (shapes_of ms a) refl
    where
      by_shape : (o : Option Shape) → shapes_of ms a ≡ o → Dec ((s : Shape) → shapes_of ms a ≡ Some s → P s)
      by_shape None e = inl (λ s q. let z : None ≡ Some s = sym e ∙ q in absurd (cc))
      by_shape (Some t) e = dec_iff (λ p s q. subst P (same_some t s (sym e ∙ q)) p) (λ f. f t e) (d t)

  everywhere : (P : ℕ → Shape → Type 0) → ((a : ℕ) (s : Shape) → Dec (P a s))
      → Dec ((a : ℕ) (s : Shape) → shapes_of ms a ≡ Some s → P a s)
  everywhere P d =
      dec_iff (λ f a s e. f a (inside ms a s e) s e) (λ f a lt s e. f a s e)
      (dec_below (λ a. (s : Shape) → shapes_of ms a ≡ Some s → P a s) (λ a. at_address a (P a) (d a)) (length ms))

  open_dec : (f : ℕ) (end : Instr) → ((a : ℕ) → Dec (slice_get code a ≡ Some end))
      → Dec (IsOpen code (shapes_of ms) f end)
  open_dec f end d =
      everywhere (λ a s. s.frame ≡ f → s.trees ≡ 0 → (a ≡ f) ⊎ (slice_get code a ≡ Some end))
      (λ a s. dec_if (cases_eq s.frame f) (dec_if (cases_eq s.trees 0) (dec_or (cases_eq a f) (d a))))

  finish_dec : (a : ℕ) → Dec (slice_get code a ≡ Some I.Finish)
  finish_dec a = instr_dec is_finish I.Finish finish_of refl (slice_get code a)

  return_dec : (a : ℕ) → Dec (slice_get code a ≡ Some I.Return)
  return_dec a = instr_dec is_return I.Return return_of refl (slice_get code a)

  tree_dec : Dec (IsTree code (shapes_of ms))
  tree_dec =
      dec_iff (λ h. record { label = h.0.0; opens = h.0.1; inside = h.1 }) (λ t. ((t.label, t.opens), t.inside))
      (dec_both (opens_dec code 0) (open_dec 0 I.Finish finish_dec))

  -- what else is asked where the first frame calls the address c
  abbrev Only : ℕ → Type 0
  Only c =
      (a : ℕ) (s : Shape) → shapes_of ms a ≡ Some s → (given : Given) → next_in code a s ≡ Some given
      → (slice_get code a ≡ Some (I.Call c)) ⊎ Avoids c given

  abbrev Alone : Type 0
  Alone = (a : ℕ) (s : Shape) → shapes_of ms a ≡ Some s → s.frame ≡ 0 → (a ≡ 0) ⊎ (a ≡ 1)

  abbrev Calls : ℕ → Type 0
  Calls c =
      (slice_get code 1 ≡ Some I.Finish) × (((l : List ℕ) × (slice_get code c ≡ Some (I.Open l))) × (Alone
      × (Only c × IsOpen code (shapes_of ms) c I.Return)))

  given_dec : (c a : ℕ) (s : Shape)
      → Dec ((given : Given) → next_in code a s ≡ Some given → (slice_get code a ≡ Some (I.Call c)) ⊎ Avoids c given)
  given_dec c a s = by_next (next_in code a s) refl
    where
      by_next : (o : Option Given) → next_in code a s ≡ o
          → Dec ((given : Given) → next_in code a s ≡ Some given → (slice_get code a ≡ Some (I.Call c))
          ⊎ Avoids c given)
      by_next None e = inl (λ g q. let z : None ≡ Some g = sym e ∙ q in absurd (cc))
      by_next (Some k) e =
          dec_iff
          (λ p g q. subst (λ x. (slice_get code a ≡ Some (I.Call c)) ⊎ Avoids c x) (same_some k g (sym e ∙ q)) p)
          (λ f. f k e)
          (dec_or (instr_dec (is_call c) (I.Call c) (call_of c) (eq-eqb c c refl) (slice_get code a)) (avoids_dec c k))

  calls_dec : (c : ℕ) → Dec (Calls c)
  calls_dec c =
      dec_both (finish_dec 1) (dec_both (opens_dec code c) (dec_both
      (everywhere (λ a s. s.frame ≡ 0
      → (a ≡ 0) ⊎ (a ≡ 1)) (λ a s. dec_if (cases_eq s.frame 0) (dec_or (cases_eq a 0) (cases_eq a 1))))
      (dec_both (everywhere (λ a s. (given : Given) → next_in code a s ≡ Some given
      → (slice_get code a ≡ Some (I.Call c)) ⊎ Avoids c given) (given_dec c))
      (open_dec c I.Return return_dec))))

  call_dec : Dec (CallsTree code (shapes_of ms))
  call_dec = by_call (call_at (slice_get code 0)) refl
    where
      by_call : (o : Option ℕ) → call_at (slice_get code 0) ≡ o → Dec (CallsTree code (shapes_of ms))
      by_call None e = inr (λ t. let z : None ≡ Some t.called = sym e ∙ ap call_at t.calls in absurd (cc))
      by_call (Some c) e = dec_iff to from (calls_dec c)
        where
          to : Calls c → CallsTree code (shapes_of ms)
          to h = record {
            called = c;
            label = h.1.0.0;
            calls = call_there code (slice_get code 0) c refl e;
            ends = h.0;
            opens = h.1.0.1;
            alone = h.1.1.0;
            only_called = λ a s given q r. h.1.1.1.0 a s q given r;
            inside = h.1.1.1.1;
          }

          from : CallsTree code (shapes_of ms) → Calls c
          from t =
              let same : t.called ≡ c = same_number (sym (ap call_at t.calls) ∙ e) in
              subst Calls same (
                t.ends,
                ((t.label, t.opens), (t.alone, ((λ a s q given r. t.only_called a s given q r), t.inside))),
              )
            where
              same_number : {x y : ℕ} → Some x ≡ Some y → x ≡ y
              same_number q = cc

-- what is asked of any shapes that are kept holds of the least ones
fewer : (code : List Instr) (ms : List (Option Shape)) → Forced code ms → (safe : IsSafe code)
    → IsTree code safe.shapes ⊎ CallsTree code safe.shapes → IsTree code (shapes_of ms) ⊎ CallsTree code (shapes_of ms)
fewer code ms h safe (inl t) = inl (record {
  label = t.label;
  opens = t.opens;
  inside = λ a s e. t.inside a s (h.forced safe.shapes safe.kept a s e);
})
fewer code ms h safe (inr t) = inr (record {
  called = t.called;
  label = t.label;
  calls = t.calls;
  ends = t.ends;
  opens = t.opens;
  alone = λ a s e. t.alone a s (h.forced safe.shapes safe.kept a s e);
  only_called = λ a s given e. t.only_called a s given (h.forced safe.shapes safe.kept a s e);
  inside = λ a s e. t.inside a s (h.forced safe.shapes safe.kept a s e);
})

by_search : (code : List Instr) → Least code ⊎ HasNone code → Dec (IsSafe code)
by_search code (inr none) = inr (λ safe. none safe.shapes safe.kept)
by_search code (inl (ms, h, all)) =
    dec_iff
    (λ tree. record {
      shapes = shapes_of ms;
      kept = record { start = h.start; goes_on = λ a s e. all a (inside ms a s e) s e };
      tree = tree;
    })
    (λ safe. fewer code ms h safe safe.tree)
    (dec_or (tree_dec code ms) (call_dec code ms))

no_code : (code : List Instr) → length code ≤ 0 → IsSafe code → ⊥
no_code [] le safe =
    let x = safe.kept.goes_on 0 (fresh 0) safe.kept.start in
    let z = x.1 in
    absurd (cc)
no_code (i ∷ code) le safe = absurd (omega (arith, le))

-- each code is safe, or is not
pub safe_decided : (code : List Instr) → Dec (IsSafe code)
safe_decided code = ⊎_elim
    (λ lt. by_search code (search code (empty (set (none_yet (length code)) 0 (Some (fresh 0)))) _ (begun code lt)
    (omega arith)))
    (λ le. inr (no_code code le))
    (cases_lt 0 (length code))

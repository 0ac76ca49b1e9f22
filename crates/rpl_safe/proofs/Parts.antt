-- The fragment of each kind of core: its shapes are as many as its instructions, a run comes to it with the shape
-- that it was given, and each instruction has what it needs.
use Rattle.std.proofs.Common.{◌≡◌, ℕ, zero, suc, ◌+◌, ◌-◌, ◌<◌, ◌≤◌, List, [], ◌∷◌, ◌++◌, length, Option, Some, None}
use Rattle.std.proofs.Common.{refl, ap, subst, arith, length-append, inl, inr}
use Rattle.std.proofs.lemmas.Bool.{eq-eqb}
use Rattle.std.specs.Prelude.{◌≢◌, ◌⊎◌}
use Rattle.regex_class.specs.Ranges.{Range}
use Rattle.rpl_core.specs.Instr.{Instr}
use Rattle.rpl_core.specs.Instr as I
use Rattle.rpl_core.specs.Code.{Placed, choice_code, tested_choice, loop_code, many_code, not_code, and_code}
use Rattle.rpl_core.specs.Code.{lengths_code, behind_code}
use Rattle.rpl_safe.specs.Safe.{Shape, Shapes, Given, fresh, only, next, AreIn}
use Rattle.rpl_safe.proofs.Standing.{Stands, stands_front, stands_back, Each, each_append}
use Rattle.rpl_safe.proofs.Shaping.{Shaped, pushed, deeper, choice_shapes, tested_shapes, body_shapes, many_shapes}
use Rattle.rpl_safe.proofs.Shaping.{not_shapes, and_shapes, lengths_shapes, capture_shapes}

-- each address is that of a call, or after the first address of the frame with a shape of the frame
abbrev pub Beyond : ℕ → Instr → Given → Type 0
Beyond f i [] = Unit {0}
Beyond f i (g ∷ gs) = ((i ≡ I.Call g.0) ⊎ ((f < g.0) × (g.1.frame ≡ f))) × Beyond f i gs

module _ (shapes : Shapes) where
  -- the instruction has what it needs, and goes on where the shapes are as it gives them, in the frame f with at least
  -- c open trees
  pub record Fine (f c a : ℕ) (i : Instr) (s : Shape) : Type 0 where
    pub given : Given
    pub by : next i a s ≡ Some given
    pub into : AreIn shapes given
    pub beyond : Beyond s.frame i given
    pub frame : s.frame ≡ f
    pub trees : c ≤ s.trees

  -- how many shapes a fragment has, and the first one
  pub record Lined (x : Placed) (u : Shaped) : Type 0 where
    pub long : (s : Shape) (a : ℕ) → length (u s a) ≡ length (x a)
    pub entry : (s : Shape) (a : ℕ) → Stands shapes a (u s a) → shapes (a + length (x a)) ≡ Some s → shapes a ≡ Some s

  module _ (f c : ℕ) where
    -- each instruction of a fragment is fine
    abbrev pub Lies : Placed → Shaped → Type 0
    Lies x u = (s : Shape) (a : ℕ) → s.frame ≡ f → f ≤ a → c ≤ s.trees → Stands shapes a (u s a)
        → shapes (a + length (x a)) ≡ Some s → Each (Fine f c) a (x a) (u s a)

    -- an instruction that goes nowhere, to one address, or to two
    pub fine0 : (a : ℕ) (i : Instr) (s : Shape) → s.frame ≡ f → c ≤ s.trees → next i a s ≡ Some [] → Fine f c a i s
    fine0 a i s e le by = record { given = []; by = by; into = tt; beyond = tt; frame = e; trees = le }

    pub fine1 : (a : ℕ) (i : Instr) (s : Shape) (l : ℕ) (r : Shape) → s.frame ≡ f → c ≤ s.trees
        → next i a s ≡ Some ((l, r) ∷ []) → shapes l ≡ Some r → f < l → r.frame ≡ s.frame → Fine f c a i s
    fine1 a i s l r e le by to lt same =
        record {
          given = (l, r) ∷ [];
          by = by;
          into = (to, tt);
          beyond = (inr (omega (arith, e, lt), same), tt);
          frame = e;
          trees = le;
        }

    pub fine2 : (a : ℕ) (i : Instr) (s : Shape) (l : ℕ) (r : Shape) (m : ℕ) (q : Shape) → s.frame ≡ f → c ≤ s.trees
        → next i a s ≡ Some ((l, r) ∷ (m, q) ∷ []) → shapes l ≡ Some r → f < l → r.frame ≡ s.frame → shapes m ≡ Some q
        → f < m → q.frame ≡ s.frame → Fine f c a i s
    fine2 a i s l r m q e le by to lt same to2 lt2 same2 =
        record {
          given = (l, r) ∷ (m, q) ∷ [];
          by = by;
          into = (to, (to2, tt));
          beyond = (inr (omega (arith, e, lt), same), (inr (omega (arith, e, lt2), same2), tt));
          frame = e;
          trees = le;
        }

    -- one instruction that goes on
    pub one_lies : (i : Instr) → ((a : ℕ) (s : Shape) → next i a s ≡ Some ((a + 1, s) ∷ []))
        → Lies (λ a. i ∷ []) (λ s a. s ∷ [])
    one_lies i by s a e le lc st out = (fine1 a i s (a + 1) s e lc (by a s) out (omega (arith, le)) refl, tt)

    -- one that doesn't
    pub none_lies : (i : Instr) → ((a : ℕ) (s : Shape) → next i a s ≡ Some []) → Lies (λ a. i ∷ []) (λ s a. s ∷ [])
    none_lies i by s a e le lc st out = (fine0 a i s e lc (by a s), tt)

    -- a choice
    pub choice_second : (x y : Placed) (p q : Shaped) → Lined x p → Lined y q → (s : Shape) (a : ℕ)
        → Stands shapes a (choice_shapes x p q s a) → shapes (a + length (choice_code x y a)) ≡ Some s
        → shapes (a + 1 + length (x (a + 1)) + 1) ≡ Some s
    choice_second x y p q hx hy s a st out =
        let l1 = a + 1 + length (x (a + 1)) + 1 in
        let l2 = l1 + length (y l1) in
        let r = pushed l1 s in
        let back = stands_back shapes (a + 1) (length (x (a + 1))) (p r (a + 1)) (r ∷ q s l1) (hx.long r (a + 1)) st.1
        in
        let len : a + length (choice_code x y a) ≡ l2 = omega (arith, length-append (x (a + 1)) (I.Commit l2 ∷ y l1)) in
        hy.entry s l1 back.1 (subst (λ m. shapes m ≡ Some s) len out)

    pub choice_lies : (x y : Placed) (p q : Shaped) → Lined x p → Lined y q → Lies x p → Lies y q
        → Lies (choice_code x y) (choice_shapes x p q)
    choice_lies x y p q hx hy kx ky s a e le lc st out =
        let l1 = a + 1 + length (x (a + 1)) + 1 in
        let l2 = l1 + length (y l1) in
        let r = pushed l1 s in
        let front = stands_front shapes (a + 1) (p r (a + 1)) (r ∷ q s l1) st.1 in
        let back = stands_back shapes (a + 1) (length (x (a + 1))) (p r (a + 1)) (r ∷ q s l1) (hx.long r (a + 1)) st.1
        in
        let len : a + length (choice_code x y a) ≡ l2 = omega (arith, length-append (x (a + 1)) (I.Commit l2 ∷ y l1)) in
        let end = subst (λ m. shapes m ≡ Some s) len out in
        let second = choice_second x y p q hx hy s a st out in (
          fine2 a (I.Choice l1) s (a + 1) r l1 s e lc refl (hx.entry r (a + 1) front back.0) (omega (arith, le)) refl
              second (omega (arith, le)) refl,
          each_append (Fine f c) (a + 1) (x (a + 1)) (I.Commit l2 ∷ y l1) (p r (a + 1)) (r ∷ q s l1)
              (kx r (a + 1) e (omega (arith, le)) lc front back.0) (
                fine1 (a + 1 + length (x (a + 1))) (I.Commit l2) r l2 s e lc refl end (omega (arith, le)) refl,
                ky s l1 e (omega (arith, le)) lc back.1 end,
              ),
        )

    pub tested_lies : (o : Option (List Range)) (x y : Placed) (p q : Shaped) → Lined x p → Lined y q → Lies x p
        → Lies y q → Lies (tested_choice o x y) (tested_shapes o x p q)
    tested_lies None x y p q hx hy kx ky s a e le lc st out = choice_lies x y p q hx hy kx ky s a e le lc st out
    tested_lies (Some k) x y p q hx hy kx ky s a e le lc st out =
        let l1 = a + 1 + 1 + length (x (a + 1 + 1)) + 1 in
        let len : a + length (tested_choice (Some k) x y a) ≡ a + 1 + length (choice_code x y (a + 1)) = omega arith in
        let end = subst (λ m. shapes m ≡ Some s) len out in (
          fine2 a (I.TestSet l1 k) s (a + 1) s l1 s e lc refl st.1.0 (omega (arith, le)) refl
              (choice_second x y p q hx hy s (a + 1) st.1 end) (omega (arith, le)) refl,
          choice_lies x y p q hx hy kx ky s (a + 1) e (omega (arith, le)) lc st.1 end,
        )

    -- a repetition and a refusal
    pub body_lies : (j : ℕ → Instr) (x : Placed) (p : Shaped) → Lined x p → Lies x p
        → ((a m l : ℕ) (s : Shape) → s.frame ≡ f → f ≤ a → c ≤ s.trees → shapes (a + 1) ≡ Some (pushed l s)
        → Fine f c m (j a) (pushed l s))
        → Lies (λ a. I.Choice (a + 1 + length (x (a + 1)) + 1) ∷ (x (a + 1) ++ j a ∷ [])) (body_shapes x p)
    body_lies j x p hx kx last s a e le lc st out =
        let l = a + 1 + length (x (a + 1)) + 1 in
        let r = pushed l s in
        let front = stands_front shapes (a + 1) (p r (a + 1)) (r ∷ []) st.1 in
        let back = stands_back shapes (a + 1) (length (x (a + 1))) (p r (a + 1)) (r ∷ []) (hx.long r (a + 1)) st.1 in
        let len : a + length (I.Choice l ∷ (x (a + 1) ++ j a ∷ [])) ≡ l =
        omega (arith, length-append (x (a + 1)) (j a ∷ [])) in
        let end = subst (λ m. shapes m ≡ Some s) len out in
        let first = hx.entry r (a + 1) front back.0 in (
          fine2 a (I.Choice l) s (a + 1) r l s e lc refl first (omega (arith, le)) refl end (omega (arith, le)) refl,
          each_append (Fine f c) (a + 1) (x (a + 1)) (j a ∷ []) (p r (a + 1)) (r ∷ [])
              (kx r (a + 1) e (omega (arith, le)) lc front back.0)
              (last a (a + 1 + length (x (a + 1))) l s e le lc first, tt),
        )

    pub loop_lies : (x : Placed) (p : Shaped) → Lined x p → Lies x p → Lies (loop_code x) (body_shapes x p)
    loop_lies x p hx kx = body_lies (λ a. I.PartialCommit (a + 1)) x p hx kx last
      where
        last : (a m l : ℕ) (s : Shape) → s.frame ≡ f → f ≤ a → c ≤ s.trees → shapes (a + 1) ≡ Some (pushed l s)
            → Fine f c m (I.PartialCommit (a + 1)) (pushed l s)
        last a m l s e le lc first =
            fine1 m (I.PartialCommit (a + 1)) (pushed l s) (a + 1) (pushed l s) e lc
            (ap (λ b. only b ((a + 1, pushed l s) ∷ [])) (eq-eqb s.trees s.trees refl)) first (omega (arith, le)) refl

    pub many_lies : (o : Option (List Range)) (x : Placed) (p : Shaped) → Lined x p → Lies x p
        → Lies (many_code o x) (many_shapes o x p)
    many_lies (Some k) x p hx kx s a e le lc st out =
        (fine1 a (I.Span k) s (a + 1) s e lc refl out (omega (arith, le)) refl, tt)
    many_lies None x p hx kx s a e le lc st out = loop_lies x p hx kx s a e le lc st out

    pub not_lies : (o : Option (List Range)) (x : Placed) (p : Shaped) → Lined x p → Lies x p
        → Lies (not_code o x) (not_shapes o x p)
    not_lies (Some k) x p hx kx s a e le lc st out =
        let two : a + 2 ≡ a + 1 + 1 = omega arith in (
          fine2 a (I.TestSet (a + 1 + 1) k) s (a + 1) s (a + 1 + 1) s e lc refl st.1.0 (omega (arith, le)) refl
              (subst (λ m. shapes m ≡ Some s) two out) (omega (arith, le)) refl,
          (fine0 (a + 1) I.Fail s e lc refl, tt),
        )
    not_lies None x p hx kx s a e le lc st out =
        body_lies (λ a. I.FailTwice) x p hx kx (λ a m l s e le lc first. fine0 m I.FailTwice (pushed l s) e lc refl) s a
        e
        le lc st out

    -- a look-ahead
    pub and_lies : (x : Placed) (p : Shaped) → Lined x p → Lies x p → Lies (and_code x) (and_shapes x p)
    and_lies x p hx kx s a e le lc st out =
        let l = a + 1 + length (x (a + 1)) + 1 in
        let r = pushed l s in
        let front = stands_front shapes (a + 1) (p r (a + 1)) (r ∷ s ∷ []) st.1 in
        let back = stands_back shapes (a + 1) (length (x (a + 1))) (p r (a + 1)) (r ∷ s ∷ []) (hx.long r (a + 1)) st.1
        in
        let len : a + length (and_code x a) ≡ l + 1 =
        omega (arith, length-append (x (a + 1)) (I.BackCommit (l + 1) ∷ I.Fail ∷ [])) in
        let end = subst (λ m. shapes m ≡ Some s) len out in (
          fine2 a (I.Choice l) s (a + 1) r l s e lc refl (hx.entry r (a + 1) front back.0) (omega (arith, le)) refl
              back.1.0 (omega (arith, le)) refl,
          each_append (Fine f c) (a + 1) (x (a + 1)) (I.BackCommit (l + 1) ∷ I.Fail ∷ []) (p r (a + 1)) (r ∷ s ∷ [])
              (kx r (a + 1) e (omega (arith, le)) lc front back.0) (
                fine1 (a + 1 + length (x (a + 1))) (I.BackCommit (l + 1)) r (l + 1) s e lc refl end (omega (arith, le))
                    refl,
                (fine0 l I.Fail s e lc refl, tt),
              ),
        )

    -- a look-behind
    pub lengths_entry : (x : Placed) (p : Shaped) (n : ℕ) (s : Shape) (a : ℕ)
        → Stands shapes a (lengths_shapes x p n s a) → shapes a ≡ Some s
    lengths_entry x p zero s a st = st.0
    lengths_entry x p (suc n) s a st = st.0

    pub lengths_long : (x : Placed) (p : Shaped) → Lined x p → (b n k : ℕ) (s : Shape) (a : ℕ)
        → length (lengths_shapes x p n s a) ≡ length (lengths_code x b n k a)
    lengths_long x p hx b zero k s a = refl
    lengths_long x p hx b (suc n) k s a =
        let m = a + 1 + 1 in
        let l = m + length (x m) + 1 in
        let r = pushed l s in
        omega (
          arith,
          length-append (p r m) (r ∷ lengths_shapes x p n s l),
          length-append (x m) (I.Meet b ∷ lengths_code x b n (k + 1) l),
          hx.long r m,
          lengths_long x p hx b n (k + 1) s l,
        )

    pub lengths_lies : (x : Placed) (p : Shaped) → Lined x p → Lies x p → (b n k : ℕ) (s : Shape) (a : ℕ) → s.frame ≡ f
        → f ≤ a → c ≤ s.trees → f < b → shapes b ≡ Some s → Stands shapes a (lengths_shapes x p n s a)
        → Each (Fine f c) a (lengths_code x b n k a) (lengths_shapes x p n s a)
    lengths_lies x p hx kx b zero k s a e le lc lb end st = (fine0 a I.Fail s e lc refl, tt)
    lengths_lies x p hx kx b (suc n) k s a e le lc lb end st =
        let m = a + 1 + 1 in
        let l = m + length (x m) + 1 in
        let r = pushed l s in
        let rest = lengths_shapes x p n s l in
        let front = stands_front shapes m (p r m) (r ∷ rest) st.1.1 in
        let back = stands_back shapes m (length (x m)) (p r m) (r ∷ rest) (hx.long r m) st.1.1 in (
          fine2 a (I.Choice l) s (a + 1) r l s e lc refl st.1.0 (omega (arith, le)) refl
              (lengths_entry x p n s l back.1) (omega (arith, le)) refl,
          (
            fine1 (a + 1) (I.Back k) r m r e lc refl (hx.entry r m front back.0) (omega (arith, le)) refl,
            each_append (Fine f c) m (x m) (I.Meet b ∷ lengths_code x b n (k + 1) l) (p r m) (r ∷ rest)
                (kx r m e (omega (arith, le)) lc front back.0) (
                  fine1 (m + length (x m)) (I.Meet b) r b s e lc refl end lb refl,
                  lengths_lies x p hx kx b n (k + 1) s l e (omega (arith, le)) lc lb end back.1,
                ),
          ),
        )

    pub behind_lies : (x : Placed) (p : Shaped) → Lined x p → Lies x p → (n k : ℕ)
        → Lies (behind_code x n k) (lengths_shapes x p n)
    behind_lies x p hx kx n k s a e le lc st out =
        let b = a + length (lengths_code x 0 n k a) in
        let same : a + length (behind_code x n k a) ≡ b =
        omega (arith, lengths_long x p hx 0 n k s a, lengths_long x p hx b n k s a) in
        let some : 0 < length (lengths_code x 0 n k a) = one_at_least n in
        lengths_lies x p hx kx b n k s a e le lc (omega (arith, le, some)) (subst (λ m. shapes m ≡ Some s) same out) st
      where
        one_at_least : (n : ℕ) → 0 < length (lengths_code x 0 n k a)
        one_at_least zero = omega arith
        one_at_least (suc n) = omega arith

    -- a call
    pub call_fine : (a l : ℕ) (s : Shape) → s.frame ≡ f → f ≤ a → c ≤ s.trees → l ≢ 0 → shapes l ≡ Some (fresh l)
        → shapes (a + 1) ≡ Some s → Fine f c a (I.Call l) s
    call_fine a zero s e le lc ne there out = absurd (ne refl)
    call_fine a (suc l) s e le lc ne there out =
        record {
          given = (suc l, fresh (suc l)) ∷ (a + 1, s) ∷ [];
          by = refl;
          into = (there, (out, tt));
          beyond = (inl refl, (inr (omega (arith, e, le), refl), tt));
          frame = e;
          trees = lc;
        }

    -- a capture
    pub capture_lies : (label : List ℕ) (x : Placed) (p : Shaped) → Lined x p → Lies x p
        → Lies (λ a. I.Open label ∷ (x (a + 1) ++ I.Close ∷ [])) (capture_shapes p)
    capture_lies label x p hx kx s a e le lc st out =
        let r = deeper s in
        let front = stands_front shapes (a + 1) (p r (a + 1)) (r ∷ []) st.1 in
        let back = stands_back shapes (a + 1) (length (x (a + 1))) (p r (a + 1)) (r ∷ []) (hx.long r (a + 1)) st.1 in
        let len : a + length (I.Open label ∷ (x (a + 1) ++ I.Close ∷ [])) ≡ a + 1 + length (x (a + 1)) + 1 =
        omega (arith, length-append (x (a + 1)) (I.Close ∷ [])) in
        let end = subst (λ m. shapes m ≡ Some s) len out in (
          fine1 a (I.Open label) s (a + 1) r e lc refl (hx.entry r (a + 1) front back.0) (omega (arith, le)) refl,
          each_append (Fine f c) (a + 1) (x (a + 1)) (I.Close ∷ []) (p r (a + 1)) (r ∷ [])
              (kx r (a + 1) e (omega (arith, le)) (omega (arith, lc)) front back.0) (
                fine1 (a + 1 + length (x (a + 1))) I.Close r (a + 1 + length (x (a + 1)) + 1) s e (omega (arith, lc))
                    refl end (omega (arith, le)) refl,
                tt,
              ),
        )

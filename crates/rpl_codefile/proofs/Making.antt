-- Just the codes that can be spelled have a spelling.
use Rattle.std.proofs.Common.{◌≡◌, ℕ, zero, suc, ◌+◌, ◌-◌, ◌<◌, ◌≤◌, List, [], ◌∷◌, ◌++◌, length, map, Some, refl}
use Rattle.std.proofs.Common.{sym, ap, ◌∙◌}
use Rattle.std.proofs.Common.{subst, arith, inl, inr, ⊎_elim, length-append, Ordering, Less, Equal, Greater}
use Rattle.std.proofs.lemmas.Bool.{and_parts, and_from, leb-true, lt-ltb, ltb-true}
use Rattle.std.proofs.lemmas.Cmp.{lists_total, nat_list_cmp_total, tied_itself}
use Rattle.std.proofs.lemmas.List.{length-map}
use Rattle.std.proofs.lemmas.List.Elements.{All-nil, All-cons, All-head, All-tail, All-push}
use Rattle.std.proofs.lemmas.Map.Lookups.{CmpEqualImpliesEq, exact_unsigned}
use Rattle.std.proofs.lemmas.Option.{slice_get_within}
use Rattle.std.specs.Cmp.{IsTotalOrder}
use Rattle.std.specs.Cmp.Lexicographic.{slice_cmp}
use Rattle.std.specs.Ordering.{nat_cmp}
use Rattle.std.specs.Prelude.{true, ◌&&◌, ◌⊎◌, nat_le, nat_lt, slice_get, slice_index_or}
use Rattle.std.specs.List.{All, Contains, list_all}
use Rattle.regex_class.specs.Ranges.{Range, fits_from, rises_from}
use Rattle.rpl_classes.specs.Sets.{IsNormal}
use Rattle.rpl_core.specs.Instr.{Instr}
use Rattle.rpl_core.specs.Instr as I
use Rattle.rpl_core.specs.Numbers.{instr_of, in_range}
use Rattle.rpl_core.specs.declared.instr.Instr as R
use Rattle.rpl_core.specs.declared.instr.Instr.TheVariants as V
use Rattle.rpl_intern.specs.Uses.{Keeps, KeepsOnce, sets_in, labels_in}
use Rattle.rpl_codefile.specs.Laws.{CanBeSpelled, HasSpelling, Spellable}
use Rattle.rpl_codefile.specs.Spelling.{file_of, spelling, Short, ShortRange, FitsSet, FitsText, FitsFile, IsFile}
use Rattle.rpl_codefile.specs.Spelling.{Spells}
use Rattle.rpl_codefile.proofs.Knowing.{exact_lists, range_cmp, range_exact, range_total}
use Rattle.rpl_codefile.proofs.Numbered.{held, last_of}
use Rattle.rpl_codefile.proofs.Once.{get_there, read_any, there}

-- ---- sets fit

rising : (n : ℕ) (s : List Range) (m : ℕ) → rises_from n s ≡ true → 0x110001 ≤ m + n → (length s ≤ m) × All ShortRange s
unfolding rises_from
rising n [] m e le = (omega arith, All-nil ShortRange)
rising n (r ∷ s) m e le =
    let p = and_parts (fits_from n r) (rises_from (r.1 + 2) s) e in
    let q = and_parts (nat_le n r.0) (nat_le r.0 r.1 && nat_le r.1 0x10_ffff) p.0 in
    let t = and_parts (nat_le r.0 r.1) (nat_le r.1 0x10_ffff) q.1 in
    let low : n ≤ r.0 = leb-true n r.0 q.0 in
    let up : r.0 ≤ r.1 = leb-true r.0 r.1 t.0 in
    let high : r.1 ≤ 0x10_ffff = leb-true r.1 0x10_ffff t.1 in
    let go = rising (r.1 + 2) s (m - 1) p.1 (omega arith) in
    (omega (arith, go.0), All-cons ShortRange r s (omega arith, omega arith) go.1)

pub set_fits : (s : List Range) → IsNormal s → FitsSet s
set_fits s h =
    let r = rising 0 s 0x110001 h.rises (omega arith) in record { long = omega (arith, r.0); ranges = r.1; normal = h }

-- ---- equality is decided

decided : {A : Type 0} (P : A → A → Ordering) → CmpEqualImpliesEq P → IsTotalOrder P → (x y : A) → (x ≡ y) ⊎ (x ≡ y → ⊥)
decided P exact total x y = by (P x y) refl
  where
    tied : x ≡ y → P x y ≡ Equal
    tied e = ap (P x) (sym e) ∙ tied_itself total x

    by : (o : Ordering) → P x y ≡ o → (x ≡ y) ⊎ (x ≡ y → ⊥)
    by Less e = inr (λ s. let t = tied s in absurd (cc (e, t)))
    by Equal e = inl (exact x y e)
    by Greater e = inr (λ s. let t = tied s in absurd (cc (e, t)))

sets_decided : (x y : List Range) → (x ≡ y) ⊎ (x ≡ y → ⊥)
sets_decided = decided (slice_cmp range_cmp) (exact_lists range_cmp range_exact) (lists_total range_total)

texts_decided : (x y : List ℕ) → (x ≡ y) ⊎ (x ≡ y → ⊥)
texts_decided = decided (slice_cmp nat_cmp) (exact_lists nat_cmp exact_unsigned) nat_list_cmp_total

-- ---- tables

module _ {A : Type 0} (same_or : (x y : A) → (x ≡ y) ⊎ (x ≡ y → ⊥)) where
  find : (t : List A) (x : A) → Contains t x ⊎ (Contains t x → ⊥)
  find [] x = inr (λ c. omega (arith, c.1))
  find (y ∷ t) x = ⊎_elim (λ e. inl (there (y ∷ t) 0 x (ap Some e))) (λ differs. later differs (find t x)) (same_or y x)
    where
      off : (k : ℕ) → (y ≡ x → ⊥) → (Contains t x → ⊥) → k < length (y ∷ t) → slice_index_or (y ∷ t) k x ≡ x → ⊥
      off zero differs none lt e = differs e
      off (suc k) differs none lt e = none (k, omega (arith, lt), e)

      later : (y ≡ x → ⊥) → Contains t x ⊎ (Contains t x → ⊥) → Contains (y ∷ t) x ⊎ (Contains (y ∷ t) x → ⊥)
      later differs (inl c) = inl (suc c.0, omega (arith, c.1), c.2)
      later differs (inr none) = inr (λ c. off c.0 differs none c.1 c.2)

  kept : (t xs : List A) → (o : List A) × Keeps t xs o
  kept t [] = (t, refl)
  kept t (x ∷ xs) = by (find t x) (kept t xs) (kept (t ++ x ∷ []) xs)
    where
      by : Contains t x ⊎ (Contains t x → ⊥) → (o : List A) × Keeps t xs o → (o : List A) × Keeps (t ++ x ∷ []) xs o
          → (o : List A) × Keeps t (x ∷ xs) o
      by (inl c) r q = (r.0, inl (c, r.1))
      by (inr n) r q = (q.0, inr (n, q.1))

-- each of these stands in the table
abbrev Found : {A : Type 0} → List A → List A → Type 0
Found o [] = Unit {0}
Found o (x ∷ xs) = ((k : ℕ) × (slice_get o k ≡ Some x)) × Found o xs

found : {A : Type 0} (t xs o : List A) → Keeps t xs o → Found o xs
found t [] o h = tt
found t (x ∷ xs) o (inl h) =
    let c = h.0 in
    ((c.0, held t xs o c.0 x (get_there t c.0 x c.1 ∙ ap Some c.2) h.1), found t xs o h.1)
found t (x ∷ xs) o (inr h) =
    ((length t, held (t ++ x ∷ []) xs o (length t) x (last_of t x) h.1), found (t ++ x ∷ []) xs o h.1)

pub keeps_few : {A : Type 0} (t xs o : List A) → Keeps t xs o → length o ≤ length t + length xs
keeps_few t [] o h = omega (arith, ap length h)
keeps_few t (x ∷ xs) o (inl h) = omega (arith, keeps_few t xs o h.1)
keeps_few t (x ∷ xs) o (inr h) = omega (arith, keeps_few (t ++ x ∷ []) xs o h.1, length-append t (x ∷ []))

kept_all : {A : Type 0} (P : A → Type 0) (t xs o : List A) → All P t → All P xs → Keeps t xs o → All P o
kept_all P t [] o a b h = subst (All P) (sym h) a
kept_all P t (x ∷ xs) o a b (inl h) = kept_all P t xs o a (All-tail P x xs b) h.1
kept_all P t (x ∷ xs) o a b (inr h) =
    kept_all P (t ++ x ∷ []) xs o (All-push P t x a (All-head P x xs b)) (All-tail P x xs b) h.1

-- ---- what a code uses

pub sets_few : (code : List Instr) → length (sets_in code) ≤ length code
sets_few [] = omega arith
sets_few (I.Set s ∷ is) = omega (arith, sets_few is)
sets_few (I.TestSet l s ∷ is) = omega (arith, sets_few is)
sets_few (I.Span s ∷ is) = omega (arith, sets_few is)
sets_few (_ ∷ is) = omega (arith, sets_few is)

pub texts_few : (code : List Instr) → length (labels_in code) ≤ length code
texts_few [] = omega arith
texts_few (I.Open x ∷ is) = omega (arith, texts_few is)
texts_few (I.Note x ∷ is) = omega (arith, texts_few is)
texts_few (_ ∷ is) = omega (arith, texts_few is)

sets_fit : (n : ℕ) (code : List Instr) → All (Spellable n) code → All FitsSet (sets_in code)
sets_fit n [] h = All-nil FitsSet
sets_fit n (I.Set s ∷ is) h =
    All-cons FitsSet s (sets_in is) (set_fits s (All-head (Spellable n) (I.Set s) is h))
    (sets_fit n is (All-tail (Spellable n) (I.Set s) is h))
sets_fit n (I.TestSet l s ∷ is) h =
    All-cons FitsSet s (sets_in is) (set_fits s (All-head (Spellable n) (I.TestSet l s) is h).1)
    (sets_fit n is (All-tail (Spellable n) (I.TestSet l s) is h))
sets_fit n (I.Span s ∷ is) h =
    All-cons FitsSet s (sets_in is) (set_fits s (All-head (Spellable n) (I.Span s) is h))
    (sets_fit n is (All-tail (Spellable n) (I.Span s) is h))
sets_fit n (i ∷ is) h = sets_fit n is (All-tail (Spellable n) i is h)

texts_fit : (n : ℕ) (code : List Instr) → All (Spellable n) code → All FitsText (labels_in code)
texts_fit n [] h = All-nil FitsText
texts_fit n (I.Open x ∷ is) h =
    All-cons FitsText x (labels_in is) (All-head (Spellable n) (I.Open x) is h)
    (texts_fit n is (All-tail (Spellable n) (I.Open x) is h))
texts_fit n (I.Note x ∷ is) h =
    All-cons FitsText x (labels_in is) (All-head (Spellable n) (I.Note x) is h)
    (texts_fit n is (All-tail (Spellable n) (I.Note x) is h))
texts_fit n (i ∷ is) h = texts_fit n is (All-tail (Spellable n) i is h)

-- ---- a code with numbers

module _ (S : List (List Range)) (X : List (List ℕ)) (n : ℕ) where
  record Coded (i : Instr) : Type 0 where
    raw : R.Instr
    is : instr_of S X raw ≡ i
    range : in_range n (length S) (length X) raw ≡ true
    short : Short raw

  -- the first instruction, and what the others use
  abbrev Step : Instr → List Instr → Type 0
  Step i is = Coded i × (Found S (sets_in is) × Found X (labels_in is))

  module _ (few : n ≤ 1048576) (few_sets : length S ≤ 1048576) (few_texts : length X ≤ 1048576) where
    step : (i : Instr) (is : List Instr) → Spellable n i → Found S (sets_in (i ∷ is)) → Found X (labels_in (i ∷ is))
        → Step i is
    step (I.Set s) is h a b =
        let lt = slice_get_within S a.0.0 s a.0.1 in (
          record {
            raw = V.Set a.0.0;
            is = ap I.Set (read_any S a.0.0 s [] a.0.1);
            range = lt-ltb a.0.0 (length S) lt;
            short = omega (arith, lt, few_sets);
          },
          (a.1, b),
        )
    step I.Start is h a b = (record { raw = V.Start; is = refl; range = refl; short = tt }, (a, b))
    step I.End is h a b = (record { raw = V.End; is = refl; range = refl; short = tt }, (a, b))
    step (I.Choice l) is h a b =
        (record { raw = V.Choice l; is = refl; range = lt-ltb l n h; short = omega (arith, h, few) }, (a, b))
    step (I.Commit l) is h a b =
        (record { raw = V.Commit l; is = refl; range = lt-ltb l n h; short = omega (arith, h, few) }, (a, b))
    step I.FailTwice is h a b = (record { raw = V.FailTwice; is = refl; range = refl; short = tt }, (a, b))
    step (I.BackCommit l) is h a b =
        (record { raw = V.BackCommit l; is = refl; range = lt-ltb l n h; short = omega (arith, h, few) }, (a, b))
    step I.Fail is h a b = (record { raw = V.Fail; is = refl; range = refl; short = tt }, (a, b))
    step (I.Back k) is h a b = (record { raw = V.Back k; is = refl; range = refl; short = h }, (a, b))
    step (I.Meet l) is h a b =
        (record { raw = V.Meet l; is = refl; range = lt-ltb l n h; short = omega (arith, h, few) }, (a, b))
    step (I.Call l) is h a b =
        (record { raw = V.Call l; is = refl; range = lt-ltb l n h; short = omega (arith, h, few) }, (a, b))
    step I.Return is h a b = (record { raw = V.Return; is = refl; range = refl; short = tt }, (a, b))
    step (I.Open x) is h a b =
        let lt = slice_get_within X b.0.0 x b.0.1 in (
          record {
            raw = V.Open b.0.0;
            is = ap I.Open (read_any X b.0.0 x [] b.0.1);
            range = lt-ltb b.0.0 (length X) lt;
            short = omega (arith, lt, few_texts);
          },
          (a, b.1),
        )
    step I.Close is h a b = (record { raw = V.Close; is = refl; range = refl; short = tt }, (a, b))
    step (I.Note x) is h a b =
        let lt = slice_get_within X b.0.0 x b.0.1 in (
          record {
            raw = V.Note b.0.0;
            is = ap I.Note (read_any X b.0.0 x [] b.0.1);
            range = lt-ltb b.0.0 (length X) lt;
            short = omega (arith, lt, few_texts);
          },
          (a, b.1),
        )
    step I.Finish is h a b = (record { raw = V.Finish; is = refl; range = refl; short = tt }, (a, b))
    step (I.PartialCommit l) is h a b =
        (record { raw = V.PartialCommit l; is = refl; range = lt-ltb l n h; short = omega (arith, h, few) }, (a, b))
    step (I.Span s) is h a b =
        let lt = slice_get_within S a.0.0 s a.0.1 in (
          record {
            raw = V.Span a.0.0;
            is = ap I.Span (read_any S a.0.0 s [] a.0.1);
            range = lt-ltb a.0.0 (length S) lt;
            short = omega (arith, lt, few_sets);
          },
          (a.1, b),
        )
    step (I.TestSet l s) is h a b =
        let lt = slice_get_within S a.0.0 s a.0.1 in (
          record {
            raw = V.TestSet l a.0.0;
            is = ap (I.TestSet l) (read_any S a.0.0 s [] a.0.1);
            range = and_from (nat_lt l n) (nat_lt a.0.0 (length S)) (lt-ltb l n h.0) (lt-ltb a.0.0 (length S) lt);
            short = (omega (arith, h.0, few), omega (arith, lt, few_sets));
          },
          (a.1, b),
        )
    step I.Halt is h a b = (record { raw = V.Halt; is = refl; range = refl; short = tt }, (a, b))

    record AllCoded (code : List Instr) : Type 0 where
      raws : List R.Instr
      are : map (instr_of S X) raws ≡ code
      range : list_all (in_range n (length S) (length X)) raws ≡ true
      short : All Short raws

    coded : (code : List Instr) → All (Spellable n) code → Found S (sets_in code) → Found X (labels_in code)
        → AllCoded code
    coded [] h a b = record { raws = []; are = refl; range = refl; short = All-nil Short }
    coded (i ∷ is) h a b =
        let s = step i is (All-head (Spellable n) i is h) a b in
        let c = coded is (All-tail (Spellable n) i is h) s.1.0 s.1.1 in
        record {
          raws = s.0.raw ∷ c.raws;
          are = ap (λ x. x ∷ map (instr_of S X) c.raws) s.0.is ∙ ap (λ l. i ∷ l) c.are;
          range =
              and_from (in_range n (length S) (length X) s.0.raw)
              (list_all (in_range n (length S) (length X)) c.raws) s.0.range c.range;
          short = All-cons Short s.0.raw c.raws s.0.short c.short;
        }

-- ---- and back: what a file says can be spelled

module _ (S : List (List Range)) (X : List (List ℕ)) (n : ℕ) (sets : All FitsSet S) (texts : All FitsText X) where
  said : (i : R.Instr) → in_range n (length S) (length X) i ≡ true → Short i → Spellable n (instr_of S X i)
  said (V.Set k) e s = (sets k [] (ltb-true k (length S) e)).normal
  said V.Start e s = tt
  said V.End e s = tt
  said (V.Choice l) e s = ltb-true l n e
  said (V.Commit l) e s = ltb-true l n e
  said V.FailTwice e s = tt
  said (V.BackCommit l) e s = ltb-true l n e
  said V.Fail e s = tt
  said (V.Back k) e s = s
  said (V.Meet l) e s = ltb-true l n e
  said (V.Call l) e s = ltb-true l n e
  said V.Return e s = tt
  said (V.Open k) e s = texts k [] (ltb-true k (length X) e)
  said V.Close e s = tt
  said (V.Note k) e s = texts k [] (ltb-true k (length X) e)
  said V.Finish e s = tt
  said (V.PartialCommit l) e s = ltb-true l n e
  said (V.Span k) e s = (sets k [] (ltb-true k (length S) e)).normal
  said (V.TestSet l k) e s =
      let p = and_parts (nat_lt l n) (nat_lt k (length S)) e in
      (ltb-true l n p.0, (sets k [] (ltb-true k (length S) p.1)).normal)
  said V.Halt e s = tt

  all_said : (c : List R.Instr) → list_all (in_range n (length S) (length X)) c ≡ true → All Short c
      → All (Spellable n) (map (instr_of S X) c)
  all_said [] e s = All-nil (Spellable n)
  all_said (i ∷ c) e s =
      let p = and_parts (in_range n (length S) (length X) i) (list_all (in_range n (length S) (length X)) c) e in
      All-cons (Spellable n) (instr_of S X i) (map (instr_of S X) c) (said i p.0 (All-head Short i c s))
      (all_said c p.1 (All-tail Short i c s))

-- ---- the law

spelled : (code : List Instr) → CanBeSpelled code → (bytes : List ℕ) × Spells code bytes
spelled code h =
    let s = kept sets_decided [] (sets_in code) in
    let x = kept texts_decided [] (labels_in code) in
    let few_s : length s.0 ≤ 1048576 = omega (arith, keeps_few [] (sets_in code) s.0 s.1, sets_few code, h.limit) in
    let few_x : length x.0 ≤ 1048576 = omega (arith, keeps_few [] (labels_in code) x.0 x.1, texts_few code, h.limit) in
    made s.0 x.0 s.1 x.1 few_s few_x
    (coded s.0 x.0 (length code) h.limit few_s few_x code h.instrs (found [] (sets_in code) s.0 s.1)
    (found [] (labels_in code) x.0 x.1))
  where
    made : (S : List (List Range)) (X : List (List ℕ)) → KeepsOnce (sets_in code) S → KeepsOnce (labels_in code) X
        → (few_s : length S ≤ 1048576) (few_x : length X ≤ 1048576)
        → AllCoded S X (length code) h.limit few_s few_x code → (bytes : List ℕ) × Spells code bytes
    made S X k j few_s few_x c =
        let f = file_of c.raws S X in
        let long : length c.raws ≡ length code = sym (length-map c.raws (instr_of S X)) ∙ ap length c.are in
        let fits : FitsFile f = record {
          sets_few = omega (arith, few_s);
          texts_few = omega (arith, few_x);
          code_few = omega (arith, long, h.limit);
          sets = kept_all FitsSet [] (sets_in code) S (All-nil FitsSet) (sets_fit (length code) code h.instrs) k;
          texts = kept_all FitsText [] (labels_in code) X (All-nil FitsText) (texts_fit (length code) code h.instrs) j;
          code = c.short;
        } in
        let is : IsFile f = record {
          some = omega (arith, long, h.some);
          limit = omega (arith, long, h.limit);
          in_range = ap (λ m. list_all (in_range m (length S) (length X)) c.raws) long ∙ c.range;
          sets = subst (λ y. KeepsOnce (sets_in y) S) (sym c.are) k;
          texts = subst (λ y. KeepsOnce (labels_in y) X) (sym c.are) j;
          fits = fits;
        } in
        (spelling f, record { file = f; is_file = is; code_is = sym c.are; bytes_are = refl })

spellable : (code : List Instr) → (bytes : List ℕ) × Spells code bytes → CanBeSpelled code
spellable code h =
    let s = h.1 in
    let f = s.file in
    let i = s.is_file in
    let long : length f.code ≡ length code =
    sym (length-map f.code (instr_of f.sets f.texts)) ∙ sym (ap length s.code_is) in
    let range : list_all (in_range (length code) (length f.sets) (length f.texts)) f.code ≡ true =
    ap (λ m. list_all (in_range m (length f.sets) (length f.texts)) f.code) (sym long) ∙ i.in_range in
    record {
      some = omega (arith, long, i.some);
      limit = omega (arith, long, i.limit);
      instrs =
          subst (All (Spellable (length code))) (sym s.code_is)
          (all_said f.sets f.texts (length code) i.fits.sets i.fits.texts f.code range i.fits.code);
    }

-- a code has a spelling if and only if it can be spelled
pub has_spelling_holds : HasSpelling
has_spelling_holds code = (spelled code, spellable code)

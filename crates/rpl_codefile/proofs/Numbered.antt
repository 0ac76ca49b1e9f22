-- The tables of a file are those of its code exactly where its numbers come in order and nothing stands twice.
use Rattle.std.proofs.Common.{◌≡◌, ℕ, zero, suc, ◌+◌, ◌<◌, ◌≤◌, List, [], ◌∷◌, ◌++◌, length, take, map, Option, Some}
use Rattle.std.proofs.Common.{None, refl, sym, ap, ◌∙◌, subst, arith, inl, inr, ⊎_elim, get_or}
use Rattle.std.proofs.lemmas.Bool.{and_parts, cases_order, eq-eqb, le-ltb, lt-ltb, ltb-true, ne_eqb}
use Rattle.std.proofs.lemmas.List.{length-take-le, take_all, take_more, get_or-take}
use Rattle.std.proofs.lemmas.Option.{get_or_from_slice_get, slice_get-get_or}
use Rattle.std.specs.Prelude.{true, nat_lt, slice_get, slice_index_or}
use Rattle.std.specs.List.{Contains, list_all}
use Rattle.rpl_text.specs.Options.{◌>>=◌}
use Rattle.regex_class.specs.Ranges.{Range}
use Rattle.rpl_core.specs.Numbers.{AreInRange, in_range, instr_of}
use Rattle.rpl_core.specs.declared.instr.Instr as R
use Rattle.rpl_core.specs.declared.instr.Instr.TheVariants as V
use Rattle.rpl_intern.specs.Uses.{Keeps, KeepsOnce, labels_in, sets_in}
use Rattle.rpl_codefile.specs.inside.Tables.{Apart, come, set_number, text_number, with_next}
use Rattle.rpl_codefile.proofs.Once.{keeps_apart, none_apart}

-- the three answers to the next number
next_below : (n k : ℕ) → k < n → with_next n (Some k) ≡ Some n
next_below n k lt = rw (lt-ltb k n lt) refl

next_same : (n k : ℕ) → k ≡ n → with_next n (Some k) ≡ Some (suc n)
next_same n k e = rw (le-ltb k n (omega (arith, e)), eq-eqb k n e) refl

next_above : (n k : ℕ) → n < k → with_next n (Some k) ≡ None
next_above n k lt = rw (le-ltb k n (omega (arith, lt)), ne_eqb k n (λ e. omega (arith, lt, e))) refl

some_is : {A : Type 0} (x y : A) → Some x ≡ Some y → x ≡ y
some_is x y e = cc

-- what a table holds keeps its place
pub held : {A : Type 0} (t xs o : List A) (j : ℕ) (x : A) → slice_get t j ≡ Some x → Keeps t xs o
    → slice_get o j ≡ Some x
held t [] o j x h k = subst (λ l. slice_get l j ≡ Some x) (sym k) h
held t (y ∷ xs) o j x h (inl k) = held t xs o j x h k.1
held t (y ∷ xs) o j x h (inr k) = held (t ++ y ∷ []) xs o j x (behind t j x h) k.1
  where
    behind : (t : List _) (j : ℕ) (x : _) → slice_get t j ≡ Some x → slice_get (t ++ y ∷ []) j ≡ Some x
    behind [] j x h = absurd (cc)
    behind (z ∷ t) zero x h = h
    behind (z ∷ t) (suc j) x h = behind t j x h

pub last_of : {A : Type 0} (t : List A) (x : A) → slice_get (t ++ x ∷ []) (length t) ≡ Some x
last_of [] x = refl
last_of (y ∷ t) x = last_of t x

module _ {A : Type 0} (T : List A) (d : A) where
  -- what the numbers name
  abbrev pub named : Option ℕ → List A → List A
  named None uses = uses
  named (Some k) uses = slice_index_or T k d ∷ uses

  abbrev pub uses : (R.Instr → Option ℕ) → List R.Instr → List A
  uses number [] = []
  uses number (i ∷ is) = named (number i) (uses number is)

  abbrev pub Below : Option ℕ → Type 0
  Below None = Unit {0}
  Below (Some k) = k < length T

  abbrev pub AllBelow : (R.Instr → Option ℕ) → List R.Instr → Type 0
  AllBelow number [] = Unit {0}
  AllBelow number (i ∷ is) = Below (number i) × AllBelow number is

  at : (k : ℕ) → k < length T → slice_get T k ≡ Some (slice_index_or T k d)
  at k lt = slice_get-get_or T k d lt

  -- the first n have what stands below n
  among : (n k : ℕ) → n ≤ length T → k < n → Contains (take n T) (slice_index_or T k d)
  among n k le lt =
      let x = slice_index_or T k d in (
        k,
        omega (arith, length-take-le n T le, lt),
        get_or-take n T k x lt
            ∙ get_or_from_slice_get T k x x (at k (omega (arith, le, lt))),
      )

  -- and nothing else
  lower : (n k : ℕ) → n ≤ length T → k < length T → Apart T → Contains (take n T) (slice_index_or T k d) → k < n
  lower n k le lt apart c =
      let j = c.0 in
      let x = slice_index_or T k d in
      let below : j < n = omega (arith, length-take-le n T le, c.1) in
      let there : get_or T j x ≡ x = sym (get_or-take n T j x below) ∙ c.2 in
      let same : j ≡ k = apart j k x (slice_get-get_or T j x (omega (arith, below, le)) ∙ ap Some there) (at k lt) in
      omega (arith, below, same)

  one_more : (n : ℕ) → n < length T → take n T ++ slice_index_or T n d ∷ [] ≡ take (suc n) T
  one_more n lt = let m : n + 1 ≡ suc n = omega arith in sym (take_more T n d lt) ∙ ap (λ k. take k T) m

  module _ (apart : Apart T) where
    step_keeps : (o : Option ℕ) (us : List A) (rest : ℕ → Option ℕ) (n : ℕ) → n ≤ length T → Below o
        → ((m : ℕ) → m ≤ length T → rest m ≡ Some (length T) → Keeps (take m T) us T)
        → (with_next n o >>= rest) ≡ Some (length T) → Keeps (take n T) (named o us) T
    step_keeps None us rest n le b go e = go n le e
    step_keeps (Some k) us rest n le b go e = ⊎_elim
        (λ same. inr (
          new same,
          subst (λ t. Keeps t us T) (grown same)
              (go (suc n) (omega (arith, b, same)) (sym (ap (λ o. o >>= rest) (next_same n k same)) ∙ e)),
        ))
        (λ other. ⊎_elim
        (λ lt. inl (among n k le lt, go n le (sym (ap (λ o. o >>= rest) (next_below n k lt)) ∙ e)))
        (λ gt. let z : None ≡ Some (length T) = sym (ap (λ o. o >>= rest) (next_above n k gt)) ∙ e in absurd (cc))
        other)
        (cases_order k n)
      where
        new : k ≡ n → Contains (take n T) (slice_index_or T k d) → ⊥
        new same c = omega (arith, same, lower n k le b apart c)

        grown : k ≡ n → take (suc n) T ≡ take n T ++ slice_index_or T k d ∷ []
        grown same = sym (one_more n (omega (arith, b, same)))
            ∙ ap (λ j. take n T ++ slice_index_or T j d ∷ []) (sym same)

    -- numbers that come in order name each thing once
    pub keeps_by_numbers : (number : R.Instr → Option ℕ) (code : List R.Instr) (n : ℕ) → n ≤ length T
        → AllBelow number code → come number n code ≡ Some (length T) → Keeps (take n T) (uses number code) T
    keeps_by_numbers number [] n le b e = sym (take_all n T (omega (arith, some_is n (length T) e)))
    keeps_by_numbers number (i ∷ is) n le b e =
        step_keeps (number i) (uses number is) (λ m. come number m is) n le b.0
        (λ m lm em. keeps_by_numbers number is m lm b.1 em) e

    step_come : (o : Option ℕ) (us : List A) (rest : ℕ → Option ℕ) (n : ℕ) → n ≤ length T → Below o
        → ((m : ℕ) → m ≤ length T → Keeps (take m T) us T → rest m ≡ Some (length T)) → Keeps (take n T) (named o us) T
        → (with_next n o >>= rest) ≡ Some (length T)
    step_come None us rest n le b go k = go n le k
    step_come (Some k) us rest n le b go (inl h) = ap (λ o. o >>= rest) (next_below n k (lower n k le b apart h.0))
        ∙ go n le h.1
    step_come (Some k) us rest n le b go (inr h) =
        ap (λ o. o >>= rest) (next_same n k same)
        ∙ go (suc n) (omega (arith, b, same)) (subst (λ t. Keeps t us T) grown h.1)
      where
        x : A
        x = slice_index_or T k d

        long : length (take n T) ≡ n
        long = length-take-le n T le

        same : k ≡ n
        same = apart k n x (at k b)
            (held (take n T ++ x ∷ []) us T n x (subst (λ j. slice_get (take n T ++ x ∷ []) j ≡ Some x) long
            (last_of (take n T) x)) h.1)

        grown : take n T ++ x ∷ [] ≡ take (suc n) T
        grown = ap (λ j. take n T ++ slice_index_or T j d ∷ []) same ∙ one_more n (omega (arith, b, same))

    -- and where each thing is named once, the numbers come in order
    pub numbers_by_keeps : (number : R.Instr → Option ℕ) (code : List R.Instr) (n : ℕ) → n ≤ length T
        → AllBelow number code → Keeps (take n T) (uses number code) T → come number n code ≡ Some (length T)
    numbers_by_keeps number [] n le b k = ap Some (sym (length-take-le n T le) ∙ ap length (sym k))
    numbers_by_keeps number (i ∷ is) n le b k =
        step_come (number i) (uses number is) (λ m. come number m is) n le b.0
        (λ m lm km. numbers_by_keeps number is m lm b.1 km) k

module _ (S : List (List Range)) (X : List (List ℕ)) where
  set_used : (i : R.Instr) (us : List (List Range)) (is : List R.Instr) → sets_in (map (instr_of S X) is) ≡ us
      → sets_in (map (instr_of S X) (i ∷ is)) ≡ named S [] (set_number i) us
  set_used (V.Set n) us is e = ap (λ l. slice_index_or S n [] ∷ l) e
  set_used V.Start us is e = e
  set_used V.End us is e = e
  set_used (V.Choice n) us is e = e
  set_used (V.Commit n) us is e = e
  set_used V.FailTwice us is e = e
  set_used (V.BackCommit n) us is e = e
  set_used V.Fail us is e = e
  set_used (V.Back n) us is e = e
  set_used (V.Meet n) us is e = e
  set_used (V.Call n) us is e = e
  set_used V.Return us is e = e
  set_used (V.Open n) us is e = e
  set_used V.Close us is e = e
  set_used (V.Note n) us is e = e
  set_used V.Finish us is e = e
  set_used (V.PartialCommit n) us is e = e
  set_used (V.Span n) us is e = ap (λ l. slice_index_or S n [] ∷ l) e
  set_used (V.TestSet l n) us is e = ap (λ l. slice_index_or S n [] ∷ l) e
  set_used V.Halt us is e = e

  pub sets_used : (code : List R.Instr) → sets_in (map (instr_of S X) code) ≡ uses S [] set_number code
  sets_used [] = refl
  sets_used (i ∷ is) = set_used i (uses S [] set_number is) is (sets_used is)

  text_used : (i : R.Instr) (us : List (List ℕ)) (is : List R.Instr) → labels_in (map (instr_of S X) is) ≡ us
      → labels_in (map (instr_of S X) (i ∷ is)) ≡ named X [] (text_number i) us
  text_used (V.Set n) us is e = e
  text_used V.Start us is e = e
  text_used V.End us is e = e
  text_used (V.Choice n) us is e = e
  text_used (V.Commit n) us is e = e
  text_used V.FailTwice us is e = e
  text_used (V.BackCommit n) us is e = e
  text_used V.Fail us is e = e
  text_used (V.Back n) us is e = e
  text_used (V.Meet n) us is e = e
  text_used (V.Call n) us is e = e
  text_used V.Return us is e = e
  text_used (V.Open n) us is e = ap (λ l. slice_index_or X n [] ∷ l) e
  text_used V.Close us is e = e
  text_used (V.Note n) us is e = ap (λ l. slice_index_or X n [] ∷ l) e
  text_used V.Finish us is e = e
  text_used (V.PartialCommit n) us is e = e
  text_used (V.Span n) us is e = e
  text_used (V.TestSet l n) us is e = e
  text_used V.Halt us is e = e

  pub texts_used : (code : List R.Instr) → labels_in (map (instr_of S X) code) ≡ uses X [] text_number code
  texts_used [] = refl
  texts_used (i ∷ is) = text_used i (uses X [] text_number is) is (texts_used is)

  set_below : (c : ℕ) (i : R.Instr) → in_range c (length S) (length X) i ≡ true → Below S [] (set_number i)
  set_below c (V.Set n) e = ltb-true n (length S) e
  set_below c V.Start e = tt
  set_below c V.End e = tt
  set_below c (V.Choice n) e = tt
  set_below c (V.Commit n) e = tt
  set_below c V.FailTwice e = tt
  set_below c (V.BackCommit n) e = tt
  set_below c V.Fail e = tt
  set_below c (V.Back n) e = tt
  set_below c (V.Meet n) e = tt
  set_below c (V.Call n) e = tt
  set_below c V.Return e = tt
  set_below c (V.Open n) e = tt
  set_below c V.Close e = tt
  set_below c (V.Note n) e = tt
  set_below c V.Finish e = tt
  set_below c (V.PartialCommit n) e = tt
  set_below c (V.Span n) e = ltb-true n (length S) e
  set_below c (V.TestSet l n) e = ltb-true n (length S) (and_parts (nat_lt l c) (nat_lt n (length S)) e).1
  set_below c V.Halt e = tt

  text_below : (c : ℕ) (i : R.Instr) → in_range c (length S) (length X) i ≡ true → Below X [] (text_number i)
  text_below c (V.Set n) e = tt
  text_below c V.Start e = tt
  text_below c V.End e = tt
  text_below c (V.Choice n) e = tt
  text_below c (V.Commit n) e = tt
  text_below c V.FailTwice e = tt
  text_below c (V.BackCommit n) e = tt
  text_below c V.Fail e = tt
  text_below c (V.Back n) e = tt
  text_below c (V.Meet n) e = tt
  text_below c (V.Call n) e = tt
  text_below c V.Return e = tt
  text_below c (V.Open n) e = ltb-true n (length X) e
  text_below c V.Close e = tt
  text_below c (V.Note n) e = ltb-true n (length X) e
  text_below c V.Finish e = tt
  text_below c (V.PartialCommit n) e = tt
  text_below c (V.Span n) e = tt
  text_below c (V.TestSet l n) e = tt
  text_below c V.Halt e = tt

  sets_below : (c : ℕ) (code : List R.Instr) → list_all (in_range c (length S) (length X)) code ≡ true
      → AllBelow S [] set_number code
  sets_below c [] e = tt
  sets_below c (i ∷ is) e = let h =
      and_parts (in_range c (length S) (length X) i) (list_all (in_range c (length S) (length X)) is) e in
      (set_below c i h.0, sets_below c is h.1)

  texts_below : (c : ℕ) (code : List R.Instr) → list_all (in_range c (length S) (length X)) code ≡ true
      → AllBelow X [] text_number code
  texts_below c [] e = tt
  texts_below c (i ∷ is) e = let h =
      and_parts (in_range c (length S) (length X) i) (list_all (in_range c (length S) (length X)) is) e in
      (text_below c i h.0, texts_below c is h.1)

  module _ (code : List R.Instr) (range : AreInRange code S X) where
    pub sets_kept : Apart S → come set_number 0 code ≡ Some (length S) → KeepsOnce (sets_in (map (instr_of S X) code)) S
    sets_kept apart e =
        subst (λ us. Keeps [] us S) (sym (sets_used code)) (keeps_by_numbers S [] apart set_number code 0 (omega arith)
        (sets_below (length code) code range) e)

    pub sets_come : KeepsOnce (sets_in (map (instr_of S X) code)) S → come set_number 0 code ≡ Some (length S)
    sets_come k = numbers_by_keeps S [] (keeps_apart [] (sets_in (map (instr_of S X) code)) S none_apart k) set_number
        code 0 (omega arith) (sets_below (length code) code range) (subst (λ us. Keeps [] us S) (sets_used code) k)

    pub texts_kept : Apart X → come text_number 0 code ≡ Some (length X)
        → KeepsOnce (labels_in (map (instr_of S X) code)) X
    texts_kept apart e =
        subst (λ us. Keeps [] us X) (sym (texts_used code))
        (keeps_by_numbers X [] apart text_number code 0 (omega arith)
        (texts_below (length code) code range) e)

    pub texts_come : KeepsOnce (labels_in (map (instr_of S X) code)) X → come text_number 0 code ≡ Some (length X)
    texts_come k = numbers_by_keeps X [] (keeps_apart [] (labels_in (map (instr_of S X) code)) X none_apart k)
        text_number code 0 (omega arith) (texts_below (length code) code range)
        (subst (λ us. Keeps [] us X) (texts_used code) k)

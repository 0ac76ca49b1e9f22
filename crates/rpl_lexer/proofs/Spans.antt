-- Which spans fit as a name, a number, a text or bracket, and bounds.
use Rattle.std.proofs.Common.{◌≡◌, inl, inr, ℕ, zero, suc, ◌+◌, ◌<◌, ◌≤◌, List, [], ◌∷◌, ◌++◌, Some, None, length, take}
use Rattle.std.proofs.Common.{drop, refl, sym, ap, subst, ◌∙◌, arith, length-take-le, length-append, append_assoc}
use Rattle.std.proofs.Common.{take-append-drop}
use Rattle.std.specs.Prelude.{Bool, true, false, not, ◌&&◌, nat_eq}
use Rattle.std.proofs.Math.Seq.{take-append_seam}
use Rattle.std.proofs.lemmas.Bool.{cases_Bool, and_from}
use Rattle.std.proofs.lemmas.Bool.Decides.{nat_tests}
use Rattle.std.specs.List.{list_all}
use Rattle.rpl_text.specs.Ascii.{is_letter, is_digit}
use Rattle.rpl_lexer.specs.declared.enclosed.Enclosure.{Enclosure}
use Rattle.rpl_lexer.specs.Bytes.{is_word, run, past, begins, has}
use Rattle.rpl_lexer.specs.Keywords.{is_keyword}
use Rattle.rpl_lexer.specs.Enclosed.{plus, ends, hides, depth_after, close, bad}
use Rattle.rpl_lexer.specs.Fronts.{first_name, begins_name, qualifies}
use Rattle.rpl_lexer.specs.Forms.{IsName, IsPair, AreDigits, IsEnclosed}
use Rattle.rpl_lexer.proofs.Edges.{run_le, run_begins, plus_some, close_shut}

-- if a conjunction is true, its first part is
pub left : (a b : Bool) → (a && b) ≡ true → a ≡ true
left true b h = refl
left false b h = h

-- if a conjunction is true, its second part is
pub right : (a b : Bool) → (a && b) ≡ true → b ≡ true
right true b h = h
right false b h = absurd (cc)

letter_word : (b : ℕ) → is_letter b ≡ true → is_word b ≡ true
letter_word b h = rw h refl

same_byte : (b c : ℕ) → nat_eq b c ≡ true → b ≡ c
same_byte b c h = grind (arith, nat_tests)

-- dropping nothing from a list changes nothing
pub drop_zero : (t : List ℕ) → drop 0 t ≡ t
drop_zero [] = refl
drop_zero (c ∷ cs) = refl

-- ---- runs

each_run : (p : ℕ → Bool) (s : List ℕ) (m : ℕ) → m ≤ length s → list_all p (take m s) ≡ true → m ≤ run p s
each_run p [] m le h = omega arith
each_run p (b ∷ bs) zero le h = omega arith
each_run p (b ∷ bs) (suc m) le h = elim (cases_Bool (p b)) [
  | inl t ↦ let k : list_all p (take m bs) ≡ true = rw t at h in let l = each_run p bs m (omega arith) k in
      rw t (omega arith)
  | inr f ↦ let k : false ≡ true = rw f at h in absurd (cc)
]

run_ends : (p : ℕ → Bool) (s : List ℕ) (m : ℕ) → begins p (drop m s) ≡ false → run p s ≤ m
run_ends p [] m h = omega arith
run_ends p (b ∷ bs) zero h = rw h (omega arith)
run_ends p (b ∷ bs) (suc m) h = elim (cases_Bool (p b)) [
  | inl t ↦ let l = run_ends p bs m h in rw t (omega arith)
  | inr f ↦ rw f (omega arith)
]

pub run_stops : (p : ℕ → Bool) (s : List ℕ) → begins p (drop (run p s) s) ≡ false
run_stops p [] = refl
run_stops p (b ∷ bs) = elim (cases_Bool (p b)) [ inl t ↦ rw t (run_stops p bs) | inr f ↦ rw f f ]

run_each : (p : ℕ → Bool) (s : List ℕ) → list_all p (take (run p s) s) ≡ true
run_each p [] = refl
run_each p (b ∷ bs) = elim (cases_Bool (p b)) [ inl t ↦ rw (t, t, run_each p bs) refl | inr f ↦ rw f refl ]

begins_taken : (p : ℕ → Bool) (s : List ℕ) (m : ℕ) → begins p (take m s) ≡ true → begins p s ≡ true
begins_taken p [] zero h = h
begins_taken p [] (suc m) h = h
begins_taken p (b ∷ bs) zero h = absurd (cc)
begins_taken p (b ∷ bs) (suc m) h = h

begins_take : (p : ℕ → Bool) (s : List ℕ) (m : ℕ) → 0 < m → begins p s ≡ true → begins p (take m s) ≡ true
begins_take p [] m lt h = absurd (cc)
begins_take p (b ∷ bs) zero lt h = absurd (omega arith)
begins_take p (b ∷ bs) (suc m) lt h = h

begins_append : (p : ℕ → Bool) (q r : List ℕ) → begins p q ≡ true → begins p (q ++ r) ≡ true
begins_append p [] r h = absurd (cc)
begins_append p (c ∷ cs) r h = h

each_begins : (p : ℕ → Bool) (w : List ℕ) → 0 < length w → list_all p w ≡ true → begins p w ≡ true
each_begins p [] lt h = absurd (omega arith)
each_begins p (b ∷ bs) lt h = left _ _ h

run_over : (p t : List ℕ) → list_all is_word p ≡ true → run is_word (p ++ 46 ∷ t) ≡ length p
run_over [] t h = refl
run_over (c ∷ cs) t h = let l = left (is_word c) (list_all is_word cs) h in
    rw l (ap suc (run_over cs t (right (is_word c) (list_all is_word cs) h)))

run_word_end : (q r : List ℕ) → list_all is_word q ≡ true → begins is_word r ≡ false → run is_word (q ++ r) ≡ length q
run_word_end [] [] h f = refl
run_word_end [] (b ∷ bs) h f = rw f refl
run_word_end (c ∷ cs) r h f = let l = left (is_word c) (list_all is_word cs) h in
    rw l (ap suc (run_word_end cs r (right (is_word c) (list_all is_word cs) h) f))

-- ---- names

pub record NameFits (s : List ℕ) (m : ℕ) (reserved : Bool) : Type 0 where
  pub letter : begins is_letter s ≡ true
  pub size : m ≡ run is_word s
  pub word : is_keyword (first_name s) ≡ reserved

-- a name that is followed by no letter, digit or underscore is the longest one there
pub name_fits : (s : List ℕ) (m : ℕ) (reserved : Bool) → m ≤ length s → IsName (take m s) reserved
    → begins is_word (drop m s) ≡ false → NameFits s m reserved
name_fits s m reserved le h f =
    let a = each_run is_word s m le (right _ _ h.name) in
    let b = run_ends is_word s m f in
    let e : m ≡ run is_word s = omega arith in
    record {
      letter = begins_taken is_letter s m (left _ _ h.name);
      size = e;
      word = subst (λ x. is_keyword (take x s) ≡ reserved) e h.word;
    }

pub name_made : (s : List ℕ) (reserved : Bool) → begins is_letter s ≡ true → is_keyword (first_name s) ≡ reserved
    → IsName (first_name s) reserved
name_made s reserved h k = record {
  name = and_from _ _ (begins_take is_letter s (run is_word s) (run_begins is_letter is_word s letter_word h) h)
      (run_each is_word s);
  word = k;
}

-- ---- qualified names

pub record PairFits (s : List ℕ) (m : ℕ) : Type 0 where
  pub letter : begins is_letter s ≡ true
  pub word : is_keyword (first_name s) ≡ false
  pub qualified : qualifies s (run is_word s) ≡ true
  pub size : m ≡ past is_word s (run is_word s + 1)

drop_dot : (p t : List ℕ) → drop (length p + 1) (p ++ 46 ∷ t) ≡ t
drop_dot [] t = drop_zero t
drop_dot (c ∷ cs) t = let n : length (c ∷ cs) + 1 ≡ suc (length cs + 1) = omega arith in
    ap (λ k. drop k (c ∷ (cs ++ 46 ∷ t))) n ∙ drop_dot cs t

has_dot : (p t : List ℕ) → has (p ++ 46 ∷ t) (length p) 46 ≡ true
has_dot [] t = refl
has_dot (c ∷ cs) t = has_dot cs t

false_not : (b : Bool) → b ≡ false → not b ≡ true
false_not b h = rw h refl

begins_second : (q r : List ℕ) → IsName q false → begins is_word r ≡ false → begins_name (q ++ r) ≡ true
begins_second q r h f =
    let n = run_word_end q r (right _ _ h.name) f in
    let e : first_name (q ++ r) ≡ q = ap (λ x. take x (q ++ r)) n ∙ take-append_seam q r in
    and_from _ _ (begins_append is_letter q r (left _ _ h.name)) (false_not _ (ap is_keyword e ∙ h.word))

pair_here : (p q r : List ℕ) → IsName p false → IsName q false → begins is_word r ≡ false
    → PairFits (p ++ 46 ∷ (q ++ r)) (length p + 1 + length q)
pair_here p q r h g f =
    let t = q ++ r in
    let s = p ++ 46 ∷ t in
    let n : run is_word s ≡ length p = run_over p t (right _ _ h.name) in
    let e : first_name s ≡ p = ap (λ x. take x s) n ∙ take-append_seam p (46 ∷ t) in
    let d : qualifies s (length p) ≡ true = and_from _ _ (has_dot p t) (ap begins_name (drop_dot p t)
    ∙ begins_second q r g f) in
    let k : past is_word s (length p + 1) ≡ length p + 1 + length q =
    ap (λ x. length p + 1 + run is_word x) (drop_dot p t)
    ∙ ap (λ x. length p + 1 + x) (run_word_end q r (right _ _ g.name) f) in
    record {
      letter = begins_append is_letter p (46 ∷ t) (left _ _ h.name);
      word = ap is_keyword e ∙ h.word;
      qualified = ap (qualifies s) n ∙ d;
      size = sym (ap (λ x. past is_word s (x + 1)) n ∙ k);
    }

-- a qualified name that is followed by no letter, digit or underscore is the longest one there
pub pair_fits : (s : List ℕ) (m : ℕ) → m ≤ length s → IsPair (take m s) → begins is_word (drop m s) ≡ false
    → PairFits s m
pair_fits s m le h f =
    let r = drop m s in
    let whole : h.prefix ++ 46 ∷ (h.name ++ r) ≡ s = sym (append_assoc h.prefix (46 ∷ h.name) r)
    ∙ ap (λ x. x ++ r) (sym h.is) ∙ take-append-drop m s in
    let n : length h.prefix + 1 + length h.name ≡ m =
    omega (arith, length-take-le m s le, ap length h.is, length-append h.prefix (46 ∷ h.name)) in
    subst (PairFits s) n (subst (λ x. PairFits x (length h.prefix + 1 + length h.name)) whole
    (pair_here h.prefix h.name r h.before h.behind f))

take_dot : (s : List ℕ) (n k : ℕ) → has s n 46 ≡ true → take (n + 1 + k) s ≡ take n s ++ 46 ∷ take k (drop (n + 1) s)
take_dot [] n k h = absurd (cc)
take_dot (b ∷ bs) zero k h =
    let e : zero + 1 + k ≡ suc k = omega arith in
    ap (λ x. take x (b ∷ bs)) e ∙ ap (λ x. x ∷ take k bs) (same_byte b 46 h)
    ∙ ap (λ x. 46 ∷ take k x) (sym (drop_zero bs))
take_dot (b ∷ bs) (suc n) k h =
    let e : suc n + 1 + k ≡ suc (n + 1 + k) = omega arith in
    let f : suc n + 1 ≡ suc (n + 1) = omega arith in
    ap (λ x. take x (b ∷ bs)) e ∙ ap (λ x. b ∷ x) (take_dot bs n k h)
    ∙ ap (λ x. (b ∷ take n bs) ++ 46 ∷ take k (drop x (b ∷ bs))) (sym f)

not_true : (b : Bool) → not b ≡ true → b ≡ false
not_true true h = absurd (cc)
not_true false h = refl

pub pair_made : (s : List ℕ) → begins is_letter s ≡ true → is_keyword (first_name s) ≡ false
    → qualifies s (run is_word s) ≡ true → IsPair (take (past is_word s (run is_word s + 1)) s)
pair_made s h k q =
    let n = run is_word s in
    let r = drop (n + 1) s in
    let b = right _ _ q in
    record {
      prefix = first_name s;
      name = first_name r;
      is = take_dot s n (run is_word r) (left _ _ q);
      before = name_made s false h k;
      behind = name_made r false (left _ _ b) (not_true _ (right _ _ b));
    }

-- ---- numbers

pub record DigitsFit (s : List ℕ) (m : ℕ) : Type 0 where
  pub digit : begins is_digit s ≡ true
  pub within : m ≤ run is_digit s

pub digits_fit : (s : List ℕ) (m : ℕ) → m ≤ length s → AreDigits (take m s) → DigitsFit s m
digits_fit s m le h = record {
  digit = begins_taken is_digit s m (each_begins is_digit (take m s) h.some h.digits);
  within = each_run is_digit s m le h.digits;
}

pub digits_made : (s : List ℕ) → begins is_digit s ≡ true → AreDigits (take (run is_digit s) s)
digits_made s h = record {
  some = omega (
    arith,
    length-take-le (run is_digit s) s (run_le is_digit s),
    run_begins is_digit is_digit s (λ b e. e) h,
  );
  digits = run_each is_digit s;
}

-- ---- texts and brackets

plus_one : (m n : ℕ) → n ≡ suc m → Some (1 + m) ≡ Some n
plus_one m n e = let k : 1 + m ≡ n = omega arith in ap (λ x. Some x) k

close_prefix : (e : Enclosure) (d : ℕ) (hidden : Bool) (bs : List ℕ) (k n : ℕ) → close e d hidden (take k bs) ≡ Some n
    → close e d hidden bs ≡ Some n
close_prefix e d hidden [] zero n h = h
close_prefix e d hidden [] (suc k) n h = h
close_prefix e d hidden (b ∷ bs) zero n h = absurd (cc)
close_prefix e d hidden (b ∷ bs) (suc k) n h = elim (cases_Bool (nat_eq b 10)) [
  | inl t ↦ let f : None ≡ Some n = rw t at h in absurd (cc)
  | inr t ↦ elim (cases_Bool (ends e d hidden b)) [
    | inl q ↦ let f : Some 1 ≡ Some n = rw (t, q) at h in rw (t, q) f
    | inr q ↦
        let r = plus_some (close e (depth_after e d hidden b) (hides hidden b) (take k bs)) n (rw (t, q) at h) in
        let i = close_prefix e (depth_after e d hidden b) (hides hidden b) bs k r.0 r.1 in
        rw (t, q) (ap (plus 1) i ∙ plus_one r.0 n r.2)
  ]
]

close_cut : (e : Enclosure) (d : ℕ) (hidden : Bool) (bs : List ℕ) (n : ℕ) → close e d hidden bs ≡ Some n
    → close e d hidden (take n bs) ≡ Some n
close_cut e d hidden [] n h = absurd (cc)
close_cut e d hidden (b ∷ bs) zero h = absurd (omega (arith, (close_shut e d hidden (b ∷ bs) zero h).some))
close_cut e d hidden (b ∷ bs) (suc m) h = elim (cases_Bool (nat_eq b 10)) [
  | inl t ↦ let f : None ≡ Some (suc m) = rw t at h in absurd (cc)
  | inr t ↦ elim (cases_Bool (ends e d hidden b)) [
    | inl q ↦ let f : Some 1 ≡ Some (suc m) = rw (t, q) at h in rw (t, q) f
    | inr q ↦
        let r = plus_some (close e (depth_after e d hidden b) (hides hidden b) bs) (suc m) (rw (t, q) at h) in
        let same : r.0 ≡ m = omega (arith, r.2) in
        let i = close_cut e (depth_after e d hidden b) (hides hidden b) bs r.0 r.1 in
        let j : close e (depth_after e d hidden b) (hides hidden b) (take m bs) ≡ Some m =
        subst (λ x. close e (depth_after e d hidden b) (hides hidden b) (take x bs) ≡ Some x) same i in
        rw (t, q) (ap (plus 1) j ∙ plus_one m (suc m) refl)
  ]
]

pub record EnclosedFits (e : Enclosure) (opening b : ℕ) (bs : List ℕ) (m : ℕ) : Type 0 where
  pub byte : b ≡ opening
  pub rest : ℕ
  pub size : m ≡ suc rest
  pub closed : close e 0 false bs ≡ Some rest
  pub escapes : bad false (take rest bs) ≡ None

pub head_same : (b c : ℕ) (bs cs : List ℕ) → b ∷ bs ≡ c ∷ cs → (b ≡ c) × (bs ≡ cs)
head_same b c bs cs e = (cc, cc)

pub enclosed_fits : (e : Enclosure) (opening b : ℕ) (bs : List ℕ) (m : ℕ) → m ≤ length (b ∷ bs)
    → IsEnclosed e opening (take m (b ∷ bs)) → EnclosedFits e opening b bs m
enclosed_fits e opening b bs zero le h = let f : [] ≡ opening ∷ h.rest = h.is in absurd (cc)
enclosed_fits e opening b bs (suc k) le h =
    let s = head_same b opening (take k bs) h.rest h.is in
    let n : length (take k bs) ≡ k = length-take-le k bs (omega arith) in
    let c : close e 0 false (take k bs) ≡ Some k = ap (close e 0 false) s.1 ∙ h.closed
    ∙ ap (λ x. Some (length x)) (sym s.1) ∙ ap (λ x. Some x) n in
    record {
      byte = s.0;
      rest = k;
      size = refl;
      closed = close_prefix e 0 false bs k k c;
      escapes = ap (bad false) s.1
          ∙ h.escapes;
    }

pub enclosed_made : (e : Enclosure) (opening b : ℕ) (bs : List ℕ) (n : ℕ) → b ≡ opening → close e 0 false bs ≡ Some n
    → bad false (take n bs) ≡ None → IsEnclosed e opening (take (1 + n) (b ∷ bs))
enclosed_made e opening b bs n q h g =
    let k : 1 + n ≡ suc n = omega arith in
    let s = close_shut e 0 false bs n h in
    record {
      rest = take n bs;
      is = ap (λ x. take x (b ∷ bs)) k ∙ ap (λ x. x ∷ take n bs) q;
      closed = close_cut e 0 false bs n h ∙ ap (λ x. Some x) (sym (length-take-le n bs s.inside));
      escapes = g;
    }

-- Characters that fold alike, by the table of pairs.
use Rattle.std.proofs.Common.{◌≡◌, ℕ, zero, suc, ◌<◌, List, [], ◌∷◌, Contains, refl, sym, ap, ap₂, ◌∙◌, arith, inl, inr}
use Rattle.std.proofs.Common.{zero-lt-suc, suc-le-suc, le_of_suc-le-suc, not-suc-le-zero}
use Rattle.std.specs.Prelude.{Bool, true, false, ◌||◌, ◌&&◌, ◌==◌, nat_le, Result, Ok, Err, IfOk}
use Rattle.std.proofs.lemmas.Bool.{and_parts, and_from, or_cases, both_ways, cases_order, eqb-true, eq-eqb}
use Rattle.regex_class.specs.Ranges.{Range, in_range, in_ranges, in_image, KeysRise}
use Rattle.regex_class.proofs.RangesLemmas.{or-false, keys_rise_from, KeysRise-from_test}
use Rattle.ucd_case.specs.CaseFolding.{simple_fold, fold_pairs, IsFoldPairs}
use Rattle.ucd_case.specs.FoldOtherRows.{fold_other_rows}
use Rattle.rpl_text.specs.Characters.{is_char}
use Rattle.rpl_unicode.specs.Ranges.{IsListOf}
use Rattle.rpl_unicode.specs.Folding.{some_below, folds_with}
use Rattle.rpl_unicode.proofs.Cutting.{char_below}

pub KeysRise-fold_pairs : KeysRise fold_pairs
unfolding keys_rise_from fold_pairs fold_other_rows
KeysRise-fold_pairs = KeysRise-from_test 0 fold_pairs refl

-- ---- some number below another

or_left : (a b : Bool) → a ≡ true → (a || b) ≡ true
or_left true b e = refl
or_left false b e = absurd (both_ways false refl e)

or_right : (a b : Bool) → b ≡ true → (a || b) ≡ true
or_right true b e = refl
or_right false b e = e

some_from : (n d : ℕ) (p : ℕ → Bool) → d < n → p d ≡ true → some_below n p ≡ true
unfolding some_below
some_from zero d p lt e = absurd (omega arith)
some_from (suc n) d p lt e = elim (cases_order d n) [
  | inl same ↦ or_left (p n) (some_below n p) (ap p (sym same) ∙ e)
  | inr apart ↦ or_right (p n) (some_below n p) (some_from n d p (omega arith) e)
]

-- if some number below another passes a test, a number that passes can be given
pub some_of : (n : ℕ) (p : ℕ → Bool) → some_below n p ≡ true → (d : ℕ) × (p d ≡ true)
unfolding some_below
some_of zero p e = absurd (both_ways false refl e)
some_of (suc n) p e = elim (or_cases (p n) (some_below n p) e) [
  | inl here ↦ (n, here)
  | inr below ↦ some_of n p below
]

-- ---- the image of a set under a table of pairs

image_of : (ps : List (ℕ × ℕ)) (u : List Range) (c : ℕ) → in_image ps u c ≡ true
    → (d : ℕ) × Contains {X = ℕ × ℕ} ps (d, c) × (in_ranges u d ≡ true)
unfolding in_image
image_of [] u c e = absurd (both_ways false refl e)
image_of (p ∷ ps) u c e = elim (or_cases (in_ranges u p.0 && (p.1 == c)) (in_image ps u c) e) [
  | inl here ↦ let parts = and_parts (in_ranges u p.0) (p.1 == c) here in
      (p.0, (zero, zero-lt-suc _, ap (λ x. (p.0, x)) (eqb-true p.1 c parts.1)), parts.0)
  | inr later ↦ let r = image_of ps u c later in (r.0, (suc r.1.0, suc-le-suc r.1.1, r.1.2), r.2)
]

image_from : (ps : List (ℕ × ℕ)) (u : List Range) (d c : ℕ) → Contains {X = ℕ × ℕ} ps (d, c) → in_ranges u d ≡ true
    → in_image ps u c ≡ true
unfolding in_image
image_from [] u d c (k, lt, at) e = absurd (not-suc-le-zero lt)
image_from (p ∷ ps) u d c (zero, lt, at) e =
    or_left (in_ranges u p.0 && (p.1 == c)) (in_image ps u c)
    (and_from (in_ranges u p.0) (p.1 == c) (ap (λ (x : ℕ × ℕ). in_ranges u x.0) at
    ∙ e) (eq-eqb p.1 c (ap (λ (x : ℕ × ℕ). x.1) at)))
image_from (p ∷ ps) u d c (suc k, lt, at) e =
    or_right (in_ranges u p.0 && (p.1 == c)) (in_image ps u c) (image_from ps u d c (k, le_of_suc-le-suc lt, at) e)

-- ---- what folds with a character of some ranges

both_tests : (a b : Bool) → (a ≡ true → b ≡ true) → (b ≡ true → a ≡ true) → a ≡ b
both_tests true b f g = sym (f refl)
both_tests false true f g = g refl
both_tests false false f g = refl

alike : (rs u : List Range) (c : ℕ) → IsListOf (in_ranges rs) u → IsFoldPairs fold_pairs → is_char c ≡ true
    → (in_ranges u c || in_image fold_pairs u c) ≡ folds_with (in_ranges rs) c
unfolding folds_with
alike rs u c l pairs char =
    let test : ℕ → Bool = λ d. (is_char d && in_ranges rs d) && (simple_fold d == simple_fold c) in
    let by : (d : ℕ) → in_ranges u d ≡ true → simple_fold d ≡ simple_fold c → some_below 0x11_0000 test ≡ true =
    λ d e same.
    let k = l.normal.chars d e in
    let le = char_below d k in
    some_from 0x11_0000 d test (omega arith) (and_from _ _ (and_from _ _ k (sym (l.members d k) ∙ e)) (eq-eqb _ _ same))
    in
    both_tests _ _
    (λ e. elim (or_cases (in_ranges u c) (in_image fold_pairs u c) e) [
      | inl here ↦ by c here refl
      | inr there ↦ let r = image_of fold_pairs u c there in by r.0 r.2 ((pairs r.0 c).0 r.1).1
    ])
    (λ e.
    let r = some_of 0x11_0000 test e in
    let parts = and_parts _ _ r.1 in
    let own = and_parts _ _ parts.0 in
    let found : in_ranges u r.0 ≡ true = l.members r.0 own.0 ∙ own.1 in
    let same = eqb-true _ _ parts.1 in
    elim (cases_order r.0 c) [
      | inl at ↦ or_left (in_ranges u c) (in_image fold_pairs u c) (ap (in_ranges u) (sym at) ∙ found)
      | inr apart ↦ or_right (in_ranges u c) (in_image fold_pairs u c)
          (image_from fold_pairs u r.0 c ((pairs r.0 c).1 (λ at. absurd (omega (arith, at, apart)), same)) found)
    ])

-- a class with what folds with its members, as a list
pub alike_list : (rs u all s : List Range) → IsListOf (in_ranges rs) u → IsFoldPairs fold_pairs
    → ((c : ℕ) → in_ranges all c ≡ (in_ranges u c || in_image fold_pairs u c)) → IsListOf (in_ranges all) s
    → IsListOf (folds_with (in_ranges rs)) s
alike_list rs u all s l pairs h m = record {
  normal = m.normal;
  members = λ c e. m.members c e ∙ (h c ∙ alike rs u c l pairs e);
}

pub alike_made : {E : Type 0} (rs u all : List Range) (r : Result (List Range) E) → IsListOf (in_ranges rs) u
    → IsFoldPairs fold_pairs
    → ((c : ℕ) → in_ranges all c ≡ (in_ranges u c || in_image fold_pairs u c)) → IfOk r (IsListOf (in_ranges all))
    → IfOk r (IsListOf (folds_with (in_ranges rs)))
alike_made rs u all (Ok s) l pairs h m = alike_list rs u all s l pairs h m
alike_made rs u all (Err _) l pairs h m = tt

-- ---- one range

some_same : (n : ℕ) (p q : ℕ → Bool) → ((d : ℕ) → p d ≡ q d) → some_below n p ≡ some_below n q
unfolding some_below
some_same zero p q h = refl
some_same (suc n) p q h = ap₂ ◌||◌ (h n) (some_same n p q h)

folds_same : (p q : ℕ → Bool) (c : ℕ) → ((d : ℕ) → p d ≡ q d) → folds_with p c ≡ folds_with q c
unfolding folds_with
folds_same p q c h = some_same 0x11_0000 _ _ (λ d. ap (λ b. (is_char d && b) && (simple_fold d == simple_fold c)) (h d))

one_range : (low high c : ℕ) → in_ranges ((low, high) ∷ []) c ≡ (nat_le low c && nat_le c high)
unfolding in_ranges in_range
one_range low high c = or-false (nat_le low c && nat_le c high)

pub one_range_made : {E : Type 0} (low high : ℕ) (r : Result (List Range) E)
    → IfOk r (IsListOf (folds_with (in_ranges ((low, high) ∷ []))))
    → IfOk r (IsListOf (folds_with (λ c. nat_le low c && nat_le c high)))
one_range_made low high (Ok s) l = record {
  normal = l.normal;
  members = λ c e. l.members c e ∙ folds_same (in_ranges ((low, high) ∷ [])) _ c (one_range low high);
}
one_range_made low high (Err _) l = tt

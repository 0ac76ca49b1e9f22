-- The digits of a number in hexadecimal, from the last one on.
use Rattle.std.proofs.Common.{◌≡◌, ℕ, zero, suc, ◌+◌, ◌-◌, ◌/◌, ◌%◌, ◌<◌, ◌≤◌, List, [], ◌∷◌, refl, ap, ◌∙◌, arith}
use Rattle.std.proofs.Common.{drop, length, set}
use Rattle.std.proofs.lemmas.List.{drop-set}
use Rattle.std.proofs.lemmas.Str.{IsUtf8-from_ascii}
use Rattle.std.specs.Prelude.{Bool, true, false, ◌==◌, if◌then◌else◌, nat_lt}
use Rattle.std.specs.Str.{IsAscii, IsUtf8}
use Rattle.std.specs.Fmt.{digit_glyph, digits, digits_onto}
use Rattle.std.proofs.lemmas.Bool.{eq-eqb, ne_eqb}

pub whole : (n : ℕ) → digits_onto 64 16 false n [] ≡ digits 16 false n
unfolding digits
whole n = refl

module _ (n : ℕ) (acc : List ℕ) where
  by_test : (k : ℕ) (t : Bool) → (n / 16 == 0) ≡ t → digits_onto (suc k) 16 false n acc
      ≡ if t then digit_glyph false (n % 16) ∷ acc
      else digits_onto k 16 false (n / 16) (digit_glyph false (n % 16) ∷ acc)
  by_test k t e =
      ap (λ b. if b then digit_glyph false (n % 16) ∷ acc
      else digits_onto k 16 false (n / 16) (digit_glyph false (n % 16) ∷ acc)) e

  -- the first digit
  pub onto_last : (k : ℕ) → 0 < k → n / 16 ≡ 0 → digits_onto k 16 false n acc ≡ digit_glyph false (n % 16) ∷ acc
  onto_last zero some e = absurd (omega (arith, some))
  onto_last (suc k) some e = by_test k true (eq-eqb (n / 16) 0 e)

  -- a digit after others
  pub onto_step : (k : ℕ) → 0 < k → (n / 16 ≡ 0 → ⊥) → digits_onto k 16 false n acc
      ≡ digits_onto (k - 1) 16 false (n / 16) (digit_glyph false (n % 16) ∷ acc)
  onto_step zero some e = absurd (omega (arith, some))
  onto_step (suc k) some e =
      by_test k false (ne_eqb (n / 16) 0 e)
      ∙ ap (λ j. digits_onto j 16 false (n / 16) (digit_glyph false (n % 16) ∷ acc)) {x = k} {y =
      suc k - 1} (omega arith)

-- a digit put before the others
pub put_before : (room : List ℕ) (i x g : ℕ) → 0 < i → i ≤ length room → x ≡ g
    → drop (i - 1) (set room (i - 1) x) ≡ g ∷ drop i room
put_before room zero x g some long e = absurd (omega (arith, some))
put_before room (suc j) x g some long e =
    ap (λ m. drop m (set room m x)) {x = suc j - 1} {y = j} (omega arith)
    ∙ drop-set room j x (omega (arith, long))
    ∙ ap (λ y. y ∷ drop (j + 1) room) e
    ∙ ap (λ m. g ∷ drop m room) {x = j + 1} {y = suc j} (omega arith)

-- ---- digits are text

small_glyph : (d : ℕ) → d < 16 → digit_glyph false d < 128
small_glyph d h = by (nat_lt d 10)
  where
    by : (b : Bool) → (if b then 48 + d else 87 + d) < 128
    by true = omega (arith, h)
    by false = omega (arith, h)

one_more : (g : ℕ) (acc : List ℕ) → g < 128 → IsAscii acc → IsAscii (g ∷ acc)
one_more g acc s h zero = s
one_more g acc s h (suc i) = h i

either_ascii : (b : Bool) (x y : List ℕ) → IsAscii x → IsAscii y → IsAscii (if b then x else y)
either_ascii true x y h k = h
either_ascii false x y h k = k

onto_ascii : (k n : ℕ) (acc : List ℕ) → IsAscii acc → IsAscii (digits_onto k 16 false n acc)
onto_ascii zero n acc h = h
onto_ascii (suc k) n acc h =
    let more = one_more (digit_glyph false (n % 16)) acc (small_glyph (n % 16) (omega arith)) h in
    either_ascii (n / 16 == 0) _ _ more (onto_ascii k (n / 16) (digit_glyph false (n % 16) ∷ acc) more)

none_ascii : IsAscii []
none_ascii i = omega arith

pub digits_text : (n : ℕ) → IsUtf8 (digits 16 false n)
unfolding digits
digits_text n = IsUtf8-from_ascii (digits 16 false n) (onto_ascii 64 n [] none_ascii)

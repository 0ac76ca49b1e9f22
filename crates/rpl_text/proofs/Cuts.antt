-- The characters between two places.
use Rattle.std.proofs.Common.{◌≡◌, ℕ, zero, suc, ◌+◌, ◌-◌, ◌≤◌, List, [], ◌∷◌, ◌++◌, length, take, drop, refl, sym}
use Rattle.std.proofs.Common.{zero-add, add_assoc, ap, ◌∙◌, arith, inl, inr, length-drop}
use Rattle.std.specs.Prelude.{true, chars, encode_utf8, encode_utf8_all, IsUtf8, slice_range}
use Rattle.std.specs.Str.{all_scalars}
use Rattle.std.specs.Char.{len_utf8}
use Rattle.std.proofs.lemmas.Bool.{cases_lt}
use Rattle.std.proofs.lemmas.Str.{chars-encodes, encodes-chars, scalars-chars, length-encode}
use Rattle.std.proofs.Math.Seq.{take-append-add}
use Rattle.rpl_text.specs.Places.{at, index, IsPlace}
use Rattle.rpl_text.proofs.Walks.{at_positive, index_le, drop_at_char, scalars_drop}

-- the first j + n characters of a text have as many bytes as the first j and the n after them
pub at_drop : (t : List ℕ) (j n : ℕ) → at t (j + n) ≡ at t j + at (drop j t) n
at_drop [] zero n = refl
at_drop [] (suc j) n = refl
at_drop (c ∷ cs) zero n = let e : zero + n ≡ n = omega arith in ap (at (c ∷ cs)) e ∙ sym (zero-add (at (c ∷ cs) n))
at_drop (c ∷ cs) (suc j) n =
    let e : suc j + n ≡ suc (j + n) = omega arith in
    let h = at_drop cs j n in
    ap (at (c ∷ cs)) e ∙ ap (λ k. len_utf8 c + k) h ∙ sym (add_assoc (len_utf8 c) (at cs j) (at (drop j cs) n))

-- of two characters the one with the lower place has the lower number
pub at_order : (t : List ℕ) (i j : ℕ) → i ≤ length t → at t i ≤ at t j → i ≤ j
at_order t i j le h = elim (cases_lt j i) [
  | inl lt ↦
      let e : j + (i - j) ≡ i = omega arith in
      let d = at_drop t j (i - j) in
      let n : at (drop j t) (i - j) ≡ 0 = omega (arith, ap (at t) e) in
      let z = at_positive (drop j t) (i - j) (omega (arith, length-drop j t)) n in
      absurd (omega arith)
  | inr ge ↦ ge
]

scalars_take : (t : List ℕ) (i : ℕ) → all_scalars t ≡ true → all_scalars (take i t) ≡ true
scalars_take [] zero e = refl
scalars_take [] (suc i) e = refl
scalars_take (c ∷ cs) zero e = refl
scalars_take (c ∷ cs) (suc i) e = let h = scalars_take cs i (grind arith) in grind arith

take_at_char : (t : List ℕ) (i : ℕ) → take (at t i) (encode_utf8_all t) ≡ encode_utf8_all (take i t)
take_at_char [] zero = refl
take_at_char [] (suc i) = refl
take_at_char (c ∷ cs) zero = refl
take_at_char (c ∷ cs) (suc i) =
    ap (λ n. take (n + at cs i) (encode_utf8 c ++ encode_utf8_all cs)) (sym (length-encode c))
    ∙ take-append-add (encode_utf8 c) (encode_utf8_all cs) (at cs i) ∙ ap (λ x. encode_utf8 c ++ x) (take_at_char cs i)

pub slice_chars : (bs : List ℕ) (from to : ℕ) → IsUtf8 bs → IsPlace (chars bs) from → IsPlace (chars bs) to → from ≤ to
    → chars (slice_range bs from to) ≡ slice_range (chars bs) (index (chars bs) from) (index (chars bs) to)
slice_chars bs from to u p q le =
    let t = chars bs in
    let i = index t from in
    let j = index t to in
    let rest : drop from bs ≡ encode_utf8_all (drop i t) = ap (λ x. drop x bs) (sym p)
    ∙ ap (drop (at t i)) (sym (encodes-chars bs u)) ∙ drop_at_char t i in
    let order : i ≤ j = at_order t i j (index_le t from) (omega arith) in
    let whole : i + (j - i) ≡ j = omega arith in
    let size : to - from ≡ at (drop i t) (j - i) = omega (arith, at_drop t i (j - i), ap (at t) whole) in
    ap (λ x. chars (take (to - from) x)) rest ∙ ap (λ n. chars (take n (encode_utf8_all (drop i t)))) size
    ∙ ap chars (take_at_char (drop i t) (j - i))
    ∙ chars-encodes (take (j - i) (drop i t)) (scalars_take (drop i t) (j - i) (scalars_drop t i (scalars-chars bs u)))

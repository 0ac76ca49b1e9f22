-- Ranges without a difference are the same.
use Rattle.std.proofs.Common.{◌≡◌, ℕ, suc, ◌+◌, ◌<◌, List, [], ◌∷◌, ◌++◌, length, take, sym, ap, ap₂, ◌∙◌, arith}
use Rattle.std.proofs.lemmas.Nat.{le_or_l, le_or_r}
use Rattle.std.proofs.lemmas.Nat.Bits.{bit_at-lt, bit_at-zero, bit_at_xor, same_from_bits}
use Rattle.std.proofs.Math.Seq.{take-suc}
use Rattle.std.specs.Int.Bits.{bit_or, bit_xor}
use Rattle.std.specs.Int.{bit_at}
use Rattle.std.specs.Prelude.{◌%◌, slice_index_or}
use Rattle.regex_class.specs.Ranges.{Range}

none_left : (a b : ℕ) → bit_or a b ≡ 0 → a ≡ 0
none_left a b e = omega (arith, e, le_or_l a b)

none_right : (a b : ℕ) → bit_or a b ≡ 0 → b ≡ 0
none_right a b e = omega (arith, e, le_or_r a b)

same_number : (a b : ℕ) → bit_xor a b ≡ 0 → a ≡ b
same_number a b e = same_from_bits a b (λ i.
    let h : (bit_at a i + bit_at b i) % 2 ≡ 0 = sym (bit_at_xor a b i) ∙ ap (λ n. bit_at n i) e ∙ bit_at-zero i in
    omega (arith, h, bit_at-lt a i, bit_at-lt b i))

same_range : (x y : Range) (d : ℕ) → bit_or d (bit_or (bit_xor x.0 y.0) (bit_xor x.1 y.1)) ≡ 0 → x ≡ y
same_range x y d e =
    let h = none_right d _ e in
    ap₂ {A = ℕ} {B = ℕ} {C = Range} (λ a b. (a, b)) (same_number x.0 y.0 (none_left _ _ h))
    (same_number x.1 y.1 (none_right _ _ h))

-- one more of both
pub same_more : (a b : List Range) (i d : ℕ) → i < length a → i < length b → (d ≡ 0 → take i a ≡ take i b)
    → bit_or d (bit_or (bit_xor (slice_index_or a i (0, 0)).0 (slice_index_or b i (0, 0)).0)
    (bit_xor (slice_index_or a i (0, 0)).1 (slice_index_or b i (0, 0)).1)) ≡ 0
    → take (i + 1) a ≡ take (i + 1) b
same_more a b i d la lb same e =
    let x = slice_index_or a i (0, 0) in
    let y = slice_index_or b i (0, 0) in
    let n : i + 1 ≡ suc i = omega arith in
    ap (λ k. take k a) n ∙ take-suc a i (0, 0) la
    ∙ ap₂ (λ l z. l ++ z ∷ []) (same (none_left d _ e)) (same_range x y d e)
    ∙ sym (ap (λ k. take k b) n ∙ take-suc b i (0, 0) lb)

-- The bits of ranges.
use Rattle.std.proofs.Common.{◌≡◌, ℕ, zero, suc, ◌+◌, ◌*◌, ◌<◌, ◌≤◌, List, [], ◌∷◌, length, take, refl, sym, ap, subst}
use Rattle.std.proofs.Common.{◌∙◌, inl, inr, arith, le_of_suc-le-suc, not-suc-le-zero}
use Rattle.std.specs.Prelude.{◌↔◌, ◌||◌, Bool, true, false, bit_or, get_or}
use Rattle.std.specs.Int.{bit_at}
use Rattle.std.proofs.lemmas.Bool.{and_parts, cases_lt}
use Rattle.std.proofs.lemmas.Nat.Bits.{bit_at_or, bit_at-lt}
use Rattle.regex_class.specs.Ranges.{Range, in_range, in_ranges, range_at, rises_from}
use Rattle.rpl_classes.specs.Sets.{IsBitmap}
use Rattle.regex_class.proofs.RangesLemmas.{in_range_tells, in_ranges-cons, in_ranges-nil, in_ranges-outside, or-false}
use Rattle.regex_class.proofs.RangesLemmas.{rises_from-mono}

-- the bits of both are those of either
pub joined : (a b k : ℕ) (x y z : Bool) → (bit_at a k ≡ 1) ↔ (x ≡ true) → (bit_at b k ≡ 1) ↔ (y ≡ true) → z ≡ (x || y)
    → (bit_at (bit_or a b) k ≡ 1) ↔ (z ≡ true)
joined a b k true y z p q e = (λ h. e, λ h. let one = p.1 refl in omega (arith, bit_at_or a b k, one, bit_at-lt b k))
joined a b k false true z p q e =
    (λ h. e, λ h. let one = q.1 refl in omega (arith, bit_at_or a b k, one, bit_at-lt a k))
joined a b k false false z p q e = (
  λ h. elim (cases_lt (bit_at a k) 1) [
    | inl lt ↦ e ∙ q.0 (omega (arith, bit_at_or a b k, h, lt))
    | inr ge ↦ e ∙ p.0 (omega (arith, bit_at-lt a k, ge))
  ],
  λ h. let f : false ≡ true = sym e ∙ h in absurd (cc),
)

behind_first : (n : ℕ) (r : Range) (rs : List Range) → rises_from n (r ∷ rs) ≡ true → rises_from (r.1 + 2) rs ≡ true
unfolding rises_from
behind_first n r rs h = (and_parts _ _ h).1

-- a number before the range with the number i is in none from there on
pub before : (i n : ℕ) (rs : List Range) (c : ℕ) → rises_from n rs ≡ true → i < length rs → c < (range_at rs i).0
    → in_ranges rs c ≡ in_ranges (take i rs) c
before zero n rs c h lt less =
    in_ranges-outside rs c (λ k hk. inl (omega (arith, less, (rises_from-mono n rs 0 k h (omega arith) hk).0)))
    ∙ sym (in_ranges-nil c)
before (suc i) n [] c h lt less = absurd (not-suc-le-zero lt)
before (suc i) n (r ∷ rs) c h lt less =
    in_ranges-cons r rs c
    ∙ ap (λ b. in_range r c || b) (before i (r.1 + 2) rs c (behind_first n r rs h) (le_of_suc-le-suc lt) less)
    ∙ sym (in_ranges-cons r (take i rs) c)

pub range_has : (r : Range) (c : ℕ) → r.0 ≤ c → c ≤ r.1 → in_range r c ≡ true
range_has r c from to = elim (in_range_tells r c) [
  | inl h ↦ h.0
  | inr h ↦ elim h.1 [ inl below ↦ absurd (omega (arith, from, below)) | inr above ↦ absurd (omega (arith, to, above)) ]
]

pub range_needs : (r : Range) (c : ℕ) → in_range r c ≡ true → (r.0 ≤ c) × (c ≤ r.1)
range_needs r c is = elim (in_range_tells r c) [
  | inl h ↦ (h.1, h.2)
  | inr h ↦ let f : false ≡ true = sym h.0 ∙ is in absurd (cc)
]

-- the bits of a range are those of the list that has it alone
one_mask : (r : Range) (n b : ℕ) → ((k : ℕ) → k < 64 → (bit_at b k ≡ 1) ↔ (in_range r (n + k) ≡ true))
    → IsBitmap n (r ∷ []) b
one_mask r n b h k lt =
    let alone = in_ranges-cons r [] (n + k) ∙ ap (λ x. in_range r (n + k) || x) (in_ranges-nil (n + k))
    ∙ or-false (in_range r (n + k)) in
    subst (λ x. (bit_at b k ≡ 1) ↔ (x ≡ true)) (sym alone) (h k lt)

pub two_masks : (r : Range) (a b : ℕ) → ((k : ℕ) → k < 64 → (bit_at a k ≡ 1) ↔ (in_range r (0 + k) ≡ true))
    → ((k : ℕ) → k < 64 → (bit_at b k ≡ 1) ↔ (in_range r (64 + k) ≡ true))
    → (j : ℕ) → j < 2 → IsBitmap (64 * j) (r ∷ []) (get_or (a ∷ b ∷ []) j 0)
two_masks r a b p q zero lt = one_mask r 0 a p
two_masks r a b p q (suc zero) lt = one_mask r 64 b q
two_masks r a b p q (suc (suc j)) lt = absurd (omega (arith, lt))

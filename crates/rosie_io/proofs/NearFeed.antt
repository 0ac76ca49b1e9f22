-- From the mask of one load of bytes to the first line feed among them.
use Rattle.std.proofs.Common.{◌≡◌, ℕ, ◌+◌, ◌%◌, ◌^◌, ◌<◌, ◌≤◌, eqb, cond, List, map, length, replicate, w8, sym, ap}
use Rattle.std.proofs.Common.{◌∙◌, arith, inl, inr}
use Rattle.std.specs.Int.{trailing_zeros, w64}
use Rattle.std.specs.Int.Count.{count_trailing_zeros, trailing_of_zero}
use Rattle.std.specs.List.{prefix_len}
use Rattle.std.specs.Prelude.{not}
use Rattle.std.proofs.lemmas.Bool.{cases_eq, cases_lt, false≢true}
use Rattle.std.proofs.lemmas.Simd.{length-chunk, bitmask_splat, trailing_mask_l, run_in_chunk_fails, run_in_chunk_stops}
use Rattle.std.proofs.lemmas.Simd.{none_from_empty_mask}
use Rattle.memchr.specs.Find.{Nowhere, NoneBefore, Passes, is_byte}
use lib.Lanes.{chunk, zip2, mask_l, top}

-- no line feed from one place to another
abbrev pub NoFeed : List ℕ → ℕ → ℕ → Type 0
NoFeed bytes i j = Nowhere (Passes (is_byte 10) bytes) i j

-- the first line feed from one place to another
abbrev pub Feed : List ℕ → ℕ → ℕ → ℕ → Type 0
Feed bytes i j at = NoneBefore (Passes (is_byte 10) bytes) i j at × Passes (is_byte 10) bytes at

module _ (bytes : List ℕ) (i r : ℕ) (room : i + 32 ≤ length bytes)
    (found : r ≡ trailing_zeros w64
    (mask_l (map (top 7) (zip2 (λ a b. cond (eqb a b) 255 0) (chunk i 32 bytes) (replicate 32 10))) % 2 ^ 64)) where
  abbrev mask : ℕ
  mask = mask_l (map (λ x. eqb x 10) (chunk i 32 bytes))

  long : length (chunk i 32 bytes) ≡ 32
  long = length-chunk i 32 bytes room

  by_mask : r ≡ count_trailing_zeros 64 mask
  by_mask = found ∙ ap (count_trailing_zeros 64) (bitmask_splat w8 eqb (chunk i 32 bytes) 32 10 long (omega arith))

  counted : 0 < mask → r ≡ prefix_len (λ x. not (eqb x 10)) (chunk i 32 bytes)
  counted some = by_mask ∙ trailing_mask_l (λ x. eqb x 10) 64 (chunk i 32 bytes) (omega (arith, long)) some

  some_if : r < 32 → 0 < mask
  some_if near =
      elim (cases_eq mask 0) [
        | inl none ↦
            let all : r ≡ 64 = by_mask ∙ ap (count_trailing_zeros 64) none ∙ trailing_of_zero 64 in
            absurd (omega (arith, all))
        | inr some ↦ omega (arith, some)
      ]

  pub near_first : r < 32 → Feed bytes i (i + 32) (i + r)
  near_first near =
      let count = counted (some_if near) in (
        record {
          low = omega arith;
          high = omega arith;
          before = λ k from to feed. false≢true
              (sym (run_in_chunk_fails (λ x. eqb x 10) bytes i 32 r 0 room count k from to) ∙ feed);
        },
        run_in_chunk_stops (λ x. eqb x 10) bytes i 32 r 0 room count near,
      )

  pub near_none : 32 ≤ r → NoFeed bytes i (i + 32)
  near_none far k from to feed =
      elim (cases_eq mask 0) [
        | inl none ↦ false≢true (sym (none_from_empty_mask (λ x. eqb x 10) bytes i 32 0 room none k from to) ∙ feed)
        | inr some ↦
            false≢true (sym (run_in_chunk_fails (λ x. eqb x 10) bytes i 32 r 0 room (counted (omega (arith, some))) k
            from (omega arith)) ∙ feed)
      ]

-- one part after the other
pub none_more : (bytes : List ℕ) (i j k : ℕ) → NoFeed bytes i j → NoFeed bytes j k → NoFeed bytes i k
none_more bytes i j k front back n from to = elim (cases_lt n j) [
  | inl less ↦ front n from less
  | inr more ↦
      back n more to
]

pub first_more : (bytes : List ℕ) (i j m k at : ℕ) → NoFeed bytes i j → Feed bytes j m at → i ≤ j → m ≤ k
    → Feed bytes i k at
first_more bytes i j m k at front h le within = (
  record {
    low = omega (arith, h.0.low);
    high = omega (arith, h.0.high);
    before = none_more bytes i j at front h.0.before;
  },
  h.1,
)

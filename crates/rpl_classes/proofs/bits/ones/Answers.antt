use Rattle.std.proofs.Common.{◌-◌, ◌^◌, ap₂, inl, inr, ◌∙◌, arith}
use Rattle.std.specs.Prelude.{bit_and}
use Rattle.std.specs.Int.{bit_at}
use Rattle.std.proofs.lemmas.Bool.{cases_lt}
use Rattle.std.proofs.lemmas.Nat.Bits.{bit_at_and, bit_at_mask_inside, bit_at_mask_below, bit_at_ones}
use Rattle.std.proofs.lemmas.Nat.Bits.{bit_at_ones_above, bit_at-lt, ones_shl, ones_shr}
use Rattle.rpl_classes.proofs.bits.ones.Goals as goal

pub returns : goal.returns
returns c = λ k lt.
    let low = c.args.low in
    let high = c.args.high in
    let first = 2 ^ 64 - 2 ^ low in
    let last = 2 ^ (64 - (63 - high)) - 1 in
    let e = ap₂ (λ a b. bit_at (bit_and a b) k) (ones_shl 64 low (omega (arith, c.requires.order, c.requires.high)))
    (ones_shr 64 (63 - high) (omega arith)) ∙ bit_at_and first last k in
    let a = bit_at-lt first k in
    let b = bit_at-lt last k in (
      λ one. (
        elim (cases_lt k low) [
          | inl below ↦ absurd (omega (arith, e, one, a, b, bit_at_mask_below low 64 k below))
          | inr from ↦ from
        ],
        elim (cases_lt high k) [
          | inl above ↦ absurd
              (omega (
                arith,
                e,
                one,
                a,
                b,
                bit_at_ones_above (64 - (63 - high)) k (omega (arith, above, c.requires.high)),
              ))
          | inr to ↦ to
        ],
      ),
      λ (from, to). omega (
        arith,
        e,
        bit_at_mask_inside low 64 k from lt,
        bit_at_ones (64 - (63 - high)) k (omega (arith, to, c.requires.high)),
      ),
    )

use Rattle.std.proofs.Common.{◌+◌, arith}
use Rattle.std.proofs.lemmas.Nat.Bits.{bit_at-zero}
use Rattle.rpl_classes.proofs.Bitmaps.{range_has, range_needs}
use Rattle.rpl_classes.proofs.bits.bits_in.Goals as goal

pub returns-then-low-high : goal.returns-then-low-high
returns-then-low-high c = λ k lt.
    let h = c.ones.ensures k lt in
    let low = c.max-low.ensures in
    let high = c.min-high.ensures in (
      λ one. let b = h.0 one in
          range_has c.args.range (c.args.start + k) (omega (arith, low, b.0)) (omega (arith, high, b.1)),
      λ is. let b = range_needs c.args.range (c.args.start + k) is in
          h.1 (omega (arith, low, b.0), omega (arith, high, b.1, lt, c.if-low-high.true)),
    )

pub returns-else-low-high : goal.returns-else-low-high
returns-else-low-high c = λ k lt. (
  λ one. absurd (omega (arith, one, bit_at-zero k)),
  λ is. let b = range_needs c.args.range (c.args.start + k) is in
      absurd (omega (arith, c.max-low.ensures, c.min-high.ensures, c.if-low-high.false, b.0, b.1, lt)),
)

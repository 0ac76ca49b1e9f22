use Rattle.std.proofs.Common.{arith}
use Rattle.std.specs.Int.{bit_not, w64}
use Rattle.std.proofs.lemmas.Nat.Bits.{bit_at_and, bit_at_not, bit_at-lt}
use Rattle.rpl_classes.proofs.bits.but.Goals as goal

pub returns : goal.returns
returns c = λ k lt.
    let b = bit_at_not w64 c.args.others k c.ranges.others.fits lt in
    let a = bit_at_and c.args.bits (bit_not w64 c.args.others) k in
    let m = bit_at-lt c.args.bits k in
    let n = bit_at-lt c.args.others k in (
      λ one. (omega (arith, a, b, m, one), λ other. omega (arith, a, b, one, other)),
      λ (own, none). omega (arith, a, b, n, own, none),
    )

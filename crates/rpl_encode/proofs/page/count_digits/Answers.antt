use Rattle.std.proofs.Common.{arith}
use Rattle.std.proofs.lemmas.Fmt.{length-decimal-le}
use Rattle.rpl_encode.proofs.Digits.{one_digit, more_digits}
use Rattle.rpl_encode.proofs.page.count_digits.Goals as goal

pub overflow_add-count : goal.overflow_add-count
overflow_add-count c =
    omega (
      arith,
      c.loop-left.invariant,
      length-decimal-le 20 c.args.number (omega arith) (omega arith)
          c.ranges.number.fits,
    )

pub loop-left-preserved : goal.loop-left-preserved
loop-left-preserved c =
    omega (
      arith,
      c.loop-left.invariant,
      more_digits c.loop-left.left c.loop-left-test.true c.loop-left.auto.left-fits.fits,
    )

pub returns : goal.returns
returns c = omega (arith, c.loop-left.invariant, one_digit c.loop-left.left (omega (arith, c.loop-left-test.false)))

use Rattle.std.proofs.Common.{◌+◌, ◌*◌, arith, ◌∙◌}
use Rattle.rpl_text.proofs.Wide.{too_wide, none_wide, some_value}
use Rattle.rpl_text.proofs.numbers.value_of_digits.Goals as goal

pub returns-in_err-tens : goal.returns-in_err-tens
returns-in_err-tens c =
    let w = none_wide c.checked_mul.result (c.loop-i.number * 10) c.checked_mul.ensures c.in_err-tens.was in
    c.from_residual.ensures
    ∙ too_wide c.args.digits.now c.loop-i.i c.loop-i.number _ c.loop-i-test.true c.loop-i.invariant.same
    (omega (arith, w))

pub returns-in_err-number : goal.returns-in_err-number
returns-in_err-number c =
    let t = some_value c.checked_mul.result (c.loop-i.number * 10) c.in_ok-tens.tens c.checked_mul.ensures
    c.in_ok-tens.was in
    let w = none_wide c.checked_add.result (c.in_ok-tens.tens + c.saturating_sub.result) c.checked_add.ensures
    c.in_err-number.was in
    c.from_residual-in_err-number.ensures
    ∙ too_wide c.args.digits.now c.loop-i.i c.loop-i.number _ c.loop-i-test.true c.loop-i.invariant.same
    (omega (arith, w, t, c.saturating_sub.ensures, c.from.ensures))

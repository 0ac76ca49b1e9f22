use Rattle.std.proofs.Common.{arith, sym, ◌∙◌}
use Rattle.rpl_columns.proofs.Counting.{digit_next, digit_stop, digit_end}
use Rattle.rpl_columns.proofs.spelling.digits_end.Goals as goal

pub loop-at-preserved : goal.loop-at-preserved
loop-at-preserved c =
    let more = digit_next c.args.line.now c.loop-at.at c.loop-at-test.true (sym c.is_digit.ensures
    ∙ c.if-is_digit.true) in
    (omega arith, omega arith, omega arith)

pub returns-else-is_digit-clause-count : goal.returns-else-is_digit-clause-count
returns-else-is_digit-clause-count c =
    let none = digit_stop c.args.line.now c.loop-at.at c.loop-at-test.true (sym c.is_digit.ensures
    ∙ c.if-is_digit.false) in
    omega arith

pub returns-after-loop-at-clause-count : goal.returns-after-loop-at-clause-count
returns-after-loop-at-clause-count c =
    let none = digit_end c.args.line.now c.loop-at.at (omega arith) in
    omega arith

use Rattle.std.proofs.Common.{arith, sym, ap, ◌∙◌, take, drop, ◌+◌, ◌-◌, ◌≡◌}
use Rattle.rpl_print.specs.Quoted.{is_plain}
use Rattle.rpl_columns.proofs.Counting.{plain_chunk, string_next}
use Rattle.rpl_columns.proofs.spelling.plain_end.Goals as goal

pub loop-at-preserved : goal.loop-at-preserved
loop-at-preserved c =
    let size : c.loop-at.at + 16 - c.loop-at.at ≡ 16 = omega arith in
    let plain = ap (λ n. is_plain (take n (drop c.loop-at.at c.args.line.now))) (sym size) ∙ sym c.are_plain.ensures
    ∙ c.if-are_plain.true in
    let more = plain_chunk c.args.line.now c.loop-at.at 16 (omega arith) plain in
    (omega arith, omega arith, omega (arith, more))

pub loop-at-2-preserved : goal.loop-at-2-preserved
loop-at-2-preserved c =
    let more = string_next c.args.line.now c.loop-at-2.at c.loop-at-2-test.true (sym c.is_plain_byte.ensures
    ∙ c.if-is_plain_byte.true) in
    (omega arith, omega arith, omega arith)

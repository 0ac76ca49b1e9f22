use Rattle.std.proofs.Common.{arith, get_or}
use Rattle.rpl_columns.proofs.Counting.{string_end, string_stop, not_same}
use Rattle.rpl_columns.proofs.spelling.string_end.Goals as goal
use Rattle.rpl_columns.proofs.spelling.string_end.Goals.{else-at-line-via-then-at-line+else-line-at-eq92}
use Rattle.rpl_columns.proofs.spelling.string_end.Goals.{else-at-line-via-else-at-line}

pub returns-else-at-line-clause-count : goal.returns-else-at-line-clause-count
returns-else-at-line-clause-count c =
    let line = c.args.line.now in
    let at = c.plain_end-at.result in
    elim c.else-at-line.branch [
      | else-at-line-via-then-at-line+else-line-at-eq92 w ↦
          let zero = string_stop line at w.if-at-line.true (c.plain_end-at.ensures.stops w.if-at-line.true)
          (not_same (get_or line at 0) 92 w.if-line-at-eq92.false) in
          omega (arith, zero)
      | else-at-line-via-else-at-line w ↦
          let zero = string_end line at (omega arith) in
          omega (arith, zero)
    ]

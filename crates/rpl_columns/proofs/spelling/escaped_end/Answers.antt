use Rattle.std.proofs.Common.{arith, sym, ap, ◌∙◌, length, drop, ◌+◌, ◌≡◌, ◌≤◌, get_or}
use Rattle.std.proofs.lemmas.Bool.{eq-eqb}
use Rattle.rpl_columns.specs.Spelling.{escape_count}
use Rattle.rpl_columns.proofs.Counting.{string_bad, string_escaped, string_end, string_stop, to_end, not_same}
use Rattle.rpl_columns.proofs.spelling.escaped_end.Goals as goal

pub returns-then-count-eq0-clause-count : goal.returns-then-count-eq0-clause-count
returns-then-count-eq0-clause-count c =
    let line = c.args.line.now in
    let at = c.loop-at.at in
    let plain = c.loop-at.invariant.3 c.loop-at-test.true in
    let none : escape_count (drop (at + 1) line) ≡ 0 = ap escape_count (sym (to_end line (at + 1)))
    ∙ sym c.escape_count-count.ensures.value ∙ c.if-count-eq0.true in
    let zero = string_bad line at c.loop-at-test.true plain (eq-eqb (get_or line at 0) 92 c.if-line-at-eq92.true) none
    in
    omega (arith, zero)

pub loop-at-preserved : goal.loop-at-preserved
loop-at-preserved c =
    let line = c.args.line.now in
    let at = c.loop-at.at in
    let n = c.escape_count-count.result in
    let plain = c.loop-at.invariant.3 c.loop-at-test.true in
    let same : n ≡ escape_count (drop (at + 1) line) = c.escape_count-count.ensures.value
    ∙ ap escape_count (to_end line (at + 1)) in
    let le : n ≤ length (drop (at + 1) line) = omega (arith, ap length (to_end line (at + 1))) in
    let more = string_escaped line at n c.loop-at-test.true plain (eq-eqb (get_or line at 0) 92 c.if-line-at-eq92.true)
    same (omega arith) le in
    (omega arith, omega arith, omega (arith, more), c.plain_end-at.ensures.stops)

pub returns-else-line-at-eq92-clause-count : goal.returns-else-line-at-eq92-clause-count
returns-else-line-at-eq92-clause-count c =
    let line = c.args.line.now in
    let at = c.loop-at.at in
    let plain = c.loop-at.invariant.3 c.loop-at-test.true in
    let zero = string_stop line at c.loop-at-test.true plain (not_same (get_or line at 0) 92 c.if-line-at-eq92.false) in
    omega (arith, zero)

pub returns-after-loop-at-clause-count : goal.returns-after-loop-at-clause-count
returns-after-loop-at-clause-count c =
    let zero = string_end c.args.line.now c.loop-at.at (omega arith) in
    omega (arith, zero)

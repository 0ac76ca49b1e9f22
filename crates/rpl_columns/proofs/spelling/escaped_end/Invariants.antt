use Rattle.std.proofs.Common.{◌≡◌, ◌+◌, ◌-◌, ◌≤◌, length, drop, get_or, ◌<◌, false}
use Rattle.rpl_print.specs.Quoted.{is_plain_byte}
use Rattle.rpl_columns.specs.Spelling.{string_count}
use Rattle.rpl_columns.proofs.spelling.escaped_end.Given as goal

-- the bytes that were passed, and those that are left
abbrev pub invariant-loop-at : goal.invariant-loop-at
invariant-loop-at l = (l.from ≤ l.at) × (l.at ≤ length l.line)
    × (l.from + string_count 0 (drop l.from l.line) ≡ l.at + string_count 0 (drop l.at l.line))
    × (l.at < length l.line → is_plain_byte (get_or l.line l.at 0) ≡ false)

abbrev pub decreases-loop-at : goal.decreases-loop-at
decreases-loop-at l = length l.line - l.at

use Rattle.std.proofs.Common.{◌≡◌, ◌+◌, ◌-◌, ◌≤◌, length, drop}
use Rattle.rpl_columns.specs.Spelling.{digit_count}
use Rattle.rpl_columns.proofs.spelling.digits_end.Given as goal

-- the digits that were passed, and those that are left
abbrev pub invariant-loop-at : goal.invariant-loop-at
invariant-loop-at l = (l.from ≤ l.at) × (l.at ≤ length l.line)
    × (l.from + digit_count (drop l.from l.line) ≡ l.at + digit_count (drop l.at l.line))

abbrev pub decreases-loop-at : goal.decreases-loop-at
decreases-loop-at l = length l.line - l.at

use Rattle.std.proofs.Common.{◌≡◌, ◌+◌, ◌-◌, ◌≤◌, length, drop}
use Rattle.rpl_columns.specs.Spelling.{string_count}
use Rattle.rpl_columns.proofs.spelling.plain_end.Given as goal

-- the bytes that were passed, and those that are left
abbrev pub invariant-loop-at : goal.invariant-loop-at
invariant-loop-at l = (l.from ≤ l.at) × (l.at ≤ length l.line)
    × (l.from + string_count 0 (drop l.from l.line) ≡ l.at + string_count 0 (drop l.at l.line))

abbrev pub decreases-loop-at : goal.decreases-loop-at
decreases-loop-at l = length l.line - l.at

abbrev pub invariant-loop-at-2 : goal.invariant-loop-at-2
invariant-loop-at-2 l = (l.from ≤ l.at) × (l.at ≤ length l.line)
    × (l.from + string_count 0 (drop l.from l.line) ≡ l.at + string_count 0 (drop l.at l.line))

abbrev pub decreases-loop-at-2 : goal.decreases-loop-at-2
decreases-loop-at-2 l = length l.line - l.at

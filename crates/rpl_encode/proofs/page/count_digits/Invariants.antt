use Rattle.std.proofs.Common.{◌≡◌, ◌+◌, length}
use Rattle.std.specs.Prelude.{decimal}
use Rattle.rpl_encode.proofs.page.count_digits.Given as goal

-- the digits that are counted, with those that are left, are one more than all of them
abbrev pub invariant-loop-left : goal.invariant-loop-left
invariant-loop-left l = l.count + length (decimal l.left) ≡ length (decimal l.number) + 1

abbrev pub decreases-loop-left : goal.decreases-loop-left
decreases-loop-left l = l.left

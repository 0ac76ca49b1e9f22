use Rattle.std.proofs.Common.{◌+◌, ◌≤◌, length}
use Rattle.rpl_encode.proofs.FirstTrees.{IsOn}
use Rattle.rpl_encode.proofs.captured.tree_end.Given as goal

-- the end that is looked for is that of the captures that are left, at this depth
abbrev pub invariant-loop-capture : goal.invariant-loop-capture
invariant-loop-capture l = (l.depth + length l.rest ≤ length l.captures) × IsOn l.captures l.depth l.rest

abbrev pub decreases-loop-capture : goal.decreases-loop-capture
decreases-loop-capture l = length l.rest

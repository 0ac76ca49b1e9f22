use Rattle.std.proofs.Common.{◌≡◌, ◌≤◌, length, drop}
use Rattle.rpl_columns.specs.Nodes.{closed}
use Rattle.rpl_columns.proofs.tree.close_lists.Given as goal

-- what is still to be closed closes what was
abbrev pub invariant-loop-depth : goal.invariant-loop-depth
invariant-loop-depth l = (l.fn.reached.at ≤ l.at) × (l.at ≤ length l.line) × (l.depth ≤ l.fn.reached.depth)
    × (closed l.depth (drop l.at l.line) ≡ closed l.fn.reached.depth (drop l.fn.reached.at l.line))

abbrev pub decreases-loop-depth : goal.decreases-loop-depth
decreases-loop-depth l = l.depth

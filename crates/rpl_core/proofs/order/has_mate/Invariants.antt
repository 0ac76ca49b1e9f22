use Rattle.std.proofs.Common.{◌≡◌, ◌≤◌}
use Rattle.rpl_core.specs.Listed.{rules_of}
use Rattle.rpl_core.specs.Table.{blocks_of}
use Rattle.rpl_core.specs.inside.Standing.{has_mate}
use Rattle.rpl_core.proofs.order.has_mate.Given as goal

abbrev pub invariant-loop-other : goal.invariant-loop-other
invariant-loop-other l =
    (l.other ≤ l.number)
    × (has_mate (blocks_of (rules_of l.rules)) l.number l.number ≡ has_mate (blocks_of (rules_of l.rules)) l.number
    l.other)

abbrev pub decreases-loop-other : goal.decreases-loop-other
decreases-loop-other l = l.other

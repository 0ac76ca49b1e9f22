use Rattle.std.proofs.Common.{◌≡◌, ◌-◌, ◌≤◌, length}
use Rattle.rpl_core.specs.Listed.{rules_of}
use Rattle.rpl_core.specs.Table.{blocks_of, bodies_of}
use Rattle.rpl_check.specs.Blocks.{group_fault, table_fault, fault_from}
use Rattle.rpl_core.specs.Marks.{marked}
use Rattle.rpl_facts.specs.Groups.{CallsBefore}
use Rattle.rpl_check.specs.inside.Reach.{OverReach}
use Rattle.rpl_check.proofs.groups.check_table.Given as goal

abbrev pub invariant-loop-start : goal.invariant-loop-start
invariant-loop-start l =
    let R = bodies_of (rules_of l.rules) in
    let blocks = blocks_of (rules_of l.rules) in
    (l.start ≤ length (rules_of l.rules))
    × CallsBefore R l.start
    × OverReach R (marked l.empties) (λ reach. table_fault (marked l.empties) (marked l.halting) reach R blocks
    ≡ fault_from (group_fault (marked l.empties) (marked l.halting) reach R) blocks l.start l.start
    (length blocks - l.start))

abbrev pub decreases-loop-start : goal.decreases-loop-start
decreases-loop-start l = length (rules_of l.rules) - l.start

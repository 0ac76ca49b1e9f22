use Rattle.std.proofs.Common.{◌≡◌, ◌-◌, ◌≤◌}
use Rattle.rpl_core.specs.Listed.{rules_of}
use Rattle.rpl_core.specs.Table.{bodies_of}
use Rattle.rpl_check.specs.Faults.{first_from, halt_at}
use Rattle.rpl_core.specs.Marks.{marked}
use Rattle.rpl_check.proofs.groups.check_halts.Given as goal

abbrev pub invariant-loop-number : goal.invariant-loop-number
invariant-loop-number l =
    (l.group.start ≤ l.number)
    × (first_from (halt_at (marked l.halting) (bodies_of (rules_of l.group.rules.now))) l.group.start
    (l.group.end - l.group.start) ≡ first_from (halt_at (marked l.halting) (bodies_of (rules_of l.group.rules.now)))
    l.number (l.group.end - l.number))

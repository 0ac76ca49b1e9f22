use Rattle.std.proofs.Common.{◌≤◌, ◌-◌}
use Rattle.rpl_core.specs.Listed.{rules_of}
use Rattle.rpl_core.specs.Table.{bodies_of}
use Rattle.rpl_facts.proofs.Settling.{RoundTo}
use Rattle.rpl_facts.proofs.rounds.round.Given as goal

abbrev pub invariant-loop-number : goal.invariant-loop-number
invariant-loop-number l = (l.group.start ≤ l.number) × (l.number ≤ l.group.end)
    × RoundTo l.fact (bodies_of (rules_of l.group.rules.now)) l.group.start l.number l.group.end l.fn.marks l.marks
    l.found

abbrev pub decreases-loop-number : goal.decreases-loop-number
decreases-loop-number l = l.number - l.group.start

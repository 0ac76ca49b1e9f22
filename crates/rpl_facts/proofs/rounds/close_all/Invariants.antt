use Rattle.std.proofs.Common.{◌-◌, ◌≤◌, length}
use Rattle.rpl_core.specs.Listed.{rules_of}
use Rattle.rpl_core.specs.Table.{bodies_of}
use Rattle.rpl_facts.specs.Tests.{test_of}
use Rattle.rpl_facts.specs.inside.Rounds.{AreKnown}
use Rattle.rpl_facts.specs.Groups.{CallsBefore}
use Rattle.rpl_facts.proofs.rounds.close_all.Given as goal

abbrev pub invariant-loop-start : goal.invariant-loop-start
invariant-loop-start l =
    (l.start ≤ length (rules_of l.rules))
    × AreKnown (test_of l.fact) (bodies_of (rules_of l.rules)) l.marks l.start
    × CallsBefore (bodies_of (rules_of l.rules)) l.start

abbrev pub decreases-loop-start : goal.decreases-loop-start
decreases-loop-start l = length (rules_of l.rules) - l.start

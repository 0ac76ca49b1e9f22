use Rattle.std.proofs.Common.{◌-◌, length}
use Rattle.rpl_core.specs.Marks.{marked, count}
use Rattle.rpl_facts.specs.inside.Rounds.{Adds}
use Rattle.rpl_facts.proofs.rounds.close.Given as goal

abbrev pub invariant-loop-fact : goal.invariant-loop-fact
invariant-loop-fact l = Adds l.fact l.group l.fn.marks l.marks

abbrev pub decreases-loop-fact : goal.decreases-loop-fact
decreases-loop-fact l = length l.marks - count (marked l.marks) (length l.marks)

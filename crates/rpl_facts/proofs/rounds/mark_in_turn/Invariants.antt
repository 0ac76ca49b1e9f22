use Rattle.rpl_facts.specs.inside.Rounds.{Adds}
use Rattle.rpl_facts.proofs.rounds.mark_in_turn.Given as goal

abbrev pub invariant-loop-place : goal.invariant-loop-place
invariant-loop-place l = Adds l.fact l.group l.fn.marks l.marks

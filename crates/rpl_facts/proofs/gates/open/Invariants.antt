use Rattle.rpl_facts.proofs.gates.open.Given as goal

abbrev pub decreases-loop-gate : goal.decreases-loop-gate
decreases-loop-gate l = l.gate

use Rattle.rpl_core.specs.View.{core_of}
use Rattle.rpl_trace.specs.inside.Levels.{AreAlike}
use Rattle.rpl_trace.proofs.Alone.{nested}
use Rattle.rpl_trace.proofs.tracer.alone.Given as goal

abbrev pub invariant-loop-only : goal.invariant-loop-only
invariant-loop-only l = AreAlike (core_of l.peg) (core_of l.part)

abbrev pub decreases-loop-only : goal.decreases-loop-only
decreases-loop-only l = nested (core_of l.part)

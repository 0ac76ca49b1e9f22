use Rattle.rpl_core.specs.View.{core_of}
use Rattle.rpl_trace.proofs.Alone.{same, then_alike, only_alike, nested_less}
use Rattle.rpl_trace.proofs.tracer.alone.Goals as goal

pub loop-only-init : goal.loop-only-init
loop-only-init c = same (core_of c.args.peg.now)

pub loop-only-preserved : goal.loop-only-preserved
loop-only-preserved c = then_alike _ _ _ c.loop-only.invariant (only_alike _ _ c.in-Some.ensures)

pub loop-only-smaller : goal.loop-only-smaller
loop-only-smaller c = nested_less _ _ c.in-Some.ensures

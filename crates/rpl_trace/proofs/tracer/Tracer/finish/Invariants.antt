use Rattle.rpl_core.specs.Listed.{rules_of}
use Rattle.rpl_core.specs.Table.{bodies_of}
use Rattle.rpl_text.specs.Seen.{text_of}
use Rattle.rpl_trace.specs.inside.Steps.{Steps, left, state_of}
use Rattle.rpl_trace.proofs.tracer.Tracer.finish.Given as goal

abbrev pub invariant-loop-task : goal.invariant-loop-task
invariant-loop-task l =
    Steps (bodies_of (rules_of l.rules)) (text_of l.text) (state_of l.initial.self) l.fn.start (state_of l.self) l.end

abbrev pub decreases-loop-task : goal.decreases-loop-task
decreases-loop-task l = left (state_of l.self)

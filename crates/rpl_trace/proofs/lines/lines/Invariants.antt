use Rattle.std.proofs.Common.{◌≡◌, ◌+◌, ◌≤◌, ℕ, List, length, reverse, vec_len}
use Rattle.rpl_trace.specs.Evaluations.{Evaluations}
use Rattle.rpl_trace.specs.inside.Seen.{EventsStand}
use Rattle.rpl_trace.specs.inside.Standing.{Whole, standing}
use Rattle.rpl_trace.proofs.Reading.{Half}
use Rattle.rpl_trace.proofs.lines.lines.Given as goal

abbrev pub invariant-loop-event : goal.invariant-loop-event
invariant-loop-event l =
    ((t : List ℕ) (f : Evaluations) → EventsStand t (reverse l.fn.events.items)
    → standing t (reverse l.fn.events.items) ≡ Whole f → Half t f (reverse l.events.items) l.back)
    × (l.back.depth + length l.events.items ≤ l.count)

abbrev pub decreases-loop-event : goal.decreases-loop-event
decreases-loop-event l = vec_len l.events

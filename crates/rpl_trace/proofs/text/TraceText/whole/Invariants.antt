use Rattle.std.proofs.Common.{◌≡◌, ◌++◌, length, string_bytes}
use Rattle.rpl_trace.specs.Left.{left_of}
use Rattle.rpl_trace.proofs.text.TraceText.whole.Given as goal

abbrev pub invariant-lines : goal.invariant-lines
invariant-lines l = string_bytes l.out ++ left_of l.self ≡ left_of l.fn.self

abbrev pub decreases-lines : goal.decreases-lines
decreases-lines l = length (left_of l.self)

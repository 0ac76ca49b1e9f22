use Rattle.std.proofs.Common.{◌≡◌, ◌++◌, length, string_bytes}
use Rattle.rpl_trace.specs.Left.{left_of}
use Rattle.rosie_jobs.proofs.trace_parts.push_lines.Given as goal

abbrev pub invariant-lines : goal.invariant-lines
invariant-lines l =
    string_bytes l.made ++ left_of l.lines ≡ string_bytes l.initial.made ++ left_of l.initial.lines

abbrev pub decreases-lines : goal.decreases-lines
decreases-lines l = length (left_of l.lines)

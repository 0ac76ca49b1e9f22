-- How contracts see the text of a trace that is made in parts.
use Rattle.std.specs.Prelude.{ℕ, List, [], ◌++◌, Option, None, Some, drop, string_bytes, take}
use Rattle.rosie_run.specs.Parts.{part_bytes}
use Rattle.rpl_trace.specs.Left.{left_of}
use Rattle.rpl_trace.specs.declared.text.TraceText.{TraceText}
use Rattle.rosie_jobs.specs.declared.trace_parts.TraceParts.{TraceParts}

-- what is made, without the parts before the last
abbrev pub made_in : TraceParts → List ℕ
made_in p = drop p.from (string_bytes p.made)

-- what is still to be made
abbrev pub left_if : Option TraceText → List ℕ
left_if None = []
left_if (Some lines) = left_of lines

abbrev pub left_in : TraceParts → List ℕ
left_in p = left_if p.lines

-- the part that was made last, and all that comes after it
abbrev pub part_of : TraceParts → List ℕ
part_of p = take part_bytes (made_in p)

abbrev pub rest_of : TraceParts → List ℕ
rest_of p = drop part_bytes (made_in p) ++ left_in p

use Rattle.std.proofs.Common.{ap, arith, length, length-append, string_bytes}
use Rattle.rpl_trace.specs.Left.{left_of}
use Rattle.rosie_jobs.proofs.trace_parts.push_lines.Goals as goal

pub lines-smaller : goal.lines-smaller
lines-smaller c =
    let made = c.in_ok-push_next.ensures in
    let same = ap length made.text in let more = made.grows c.if-not-branch.false in
    omega (
      arith,
      length-append (string_bytes c.lines.made) (left_of c.lines.lines),
      length-append (string_bytes c.push_next.new.out) (left_of c.push_next.new.self),
    )

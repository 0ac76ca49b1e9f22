use Rattle.std.proofs.Common.{ap, arith, length, length-append, string_bytes}
use Rattle.rpl_trace.specs.Left.{left_of}
use Rattle.rpl_trace.proofs.text.TraceText.whole.Goals as goal

pub lines-smaller : goal.lines-smaller
lines-smaller c =
    let made = c.in_ok-push_next.ensures in
    let same = ap length made.text in let more = made.grows c.if-branch.true in
    omega (
      arith,
      length-append (string_bytes c.lines.out) (left_of c.lines.self),
      length-append (string_bytes c.push_next.new.out) (left_of c.push_next.new.self),
    )

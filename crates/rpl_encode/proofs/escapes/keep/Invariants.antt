use Rattle.std.proofs.Common.{◌*◌, ◌≤◌}
use Rattle.rpl_encode.proofs.Escaping.{KeptFrom}
use Rattle.rpl_encode.proofs.escapes.keep.Given as goal

-- what stands for the bytes from `left` on is written, and there is room for the others
abbrev pub invariant-loop-left : goal.invariant-loop-left
invariant-loop-left l = record { room : 6 * l.left ≤ l.at; kept : KeptFrom l.line l.string l.places l.left l.at }

abbrev pub decreases-loop-left : goal.decreases-loop-left
decreases-loop-left l = l.left

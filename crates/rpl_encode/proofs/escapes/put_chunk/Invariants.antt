use Rattle.std.proofs.Common.{◌≡◌, ◌*◌, ◌≤◌, length, drop}
use Rattle.json.specs.Print.{escape}
use Rattle.rpl_encode.proofs.escapes.put_chunk.Given as goal

-- what is written stands for the bytes after those that are left, and there is room for these
abbrev pub invariant-loop-left : goal.invariant-loop-left
invariant-loop-left l =
    (l.left ≤ length l.bytes) × (6 * l.left ≤ l.at) × (l.at ≤ 384) × (length l.buffer ≡ 384)
    × (drop l.at l.buffer ≡ escape (drop l.left l.bytes))

abbrev pub decreases-loop-left : goal.decreases-loop-left
decreases-loop-left l = l.left

use Rattle.std.proofs.Common.{◌≡◌, ◌+◌, drop}
use Rattle.std.specs.Prelude.{false}
use Rattle.rpl_lexer.specs.Gaps.{gap}
use Rattle.rpl_lexer.proofs.gaps.gap_len.Given as goal

abbrev pub invariant-loop-i : goal.invariant-loop-i
invariant-loop-i l = l.i + gap l.comment (drop l.i l.bytes) ≡ gap false l.bytes

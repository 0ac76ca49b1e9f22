use Rattle.std.proofs.Common.{◌≡◌, ◌++◌, length}
use Rattle.rpl_columns.specs.Cells.{doubled, text_of}
use Rattle.rpl_columns.proofs.cell.put_doubled.Given as goal

-- what is written, and what is left
abbrev pub invariant-loop-byte : goal.invariant-loop-byte
invariant-loop-byte l = l.out.items ++ doubled (text_of l.rest) ≡ l.fn.out.items ++ doubled (text_of l.spelled)

abbrev pub decreases-loop-byte : goal.decreases-loop-byte
decreases-loop-byte l = length l.rest

use Rattle.std.proofs.Common.{◌≡◌, length}
use Rattle.rpl_columns.specs.Cells.{is_to_be_quoted, text_of}
use Rattle.rpl_columns.proofs.cell.is_to_be_quoted.Given as goal

-- no byte that was passed wants quotes
abbrev pub invariant-loop-byte : goal.invariant-loop-byte
invariant-loop-byte l = is_to_be_quoted (text_of l.rest) ≡ is_to_be_quoted (text_of l.spelled)

abbrev pub decreases-loop-byte : goal.decreases-loop-byte
decreases-loop-byte l = length l.rest

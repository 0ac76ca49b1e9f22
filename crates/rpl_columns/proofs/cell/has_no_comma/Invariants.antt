use Rattle.std.proofs.Common.{◌≡◌, drop}
use Rattle.std.specs.Prelude.{◌&&◌}
use Rattle.rpl_columns.specs.Cells.{has_no_comma}
use Rattle.rpl_columns.proofs.cell.has_no_comma.Given as goal

abbrev pub invariant-loop-byte : goal.invariant-loop-byte
invariant-loop-byte l = (l.is_all && has_no_comma (drop l.byte-index l.bytes)) ≡ has_no_comma l.bytes

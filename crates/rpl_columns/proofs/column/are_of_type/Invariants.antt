use Rattle.std.proofs.Common.{◌≡◌, drop}
use Rattle.std.specs.Prelude.{◌&&◌}
use Rattle.rpl_columns.specs.Columns.{are_of_type}
use Rattle.rpl_columns.proofs.column.are_of_type.Given as goal

abbrev pub invariant-loop-byte : goal.invariant-loop-byte
invariant-loop-byte l = (l.is_all && are_of_type (drop l.byte-index l.bytes)) ≡ are_of_type l.bytes

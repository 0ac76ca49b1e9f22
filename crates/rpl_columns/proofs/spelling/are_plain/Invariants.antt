use Rattle.std.proofs.Common.{◌≡◌, drop}
use Rattle.std.specs.Prelude.{◌&&◌}
use Rattle.rpl_print.specs.Quoted.{is_plain}
use Rattle.rpl_columns.proofs.spelling.are_plain.Given as goal

-- what was found so far and the bytes that are left decide
abbrev pub invariant-loop-byte : goal.invariant-loop-byte
invariant-loop-byte l = (l.is_all && is_plain (drop l.byte-index l.bytes)) ≡ is_plain l.bytes

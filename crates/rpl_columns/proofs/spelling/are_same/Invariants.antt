use Rattle.std.proofs.Common.{◌≡◌, drop}
use Rattle.std.specs.Prelude.{◌&&◌}
use Rattle.std.specs.Str.{bytes_eq}
use Rattle.rpl_columns.proofs.spelling.are_same.Given as goal

-- what was found so far and the bytes that are left decide
abbrev pub invariant-loop-index : goal.invariant-loop-index
invariant-loop-index l = (l.is_all && bytes_eq (drop l.index l.left) (drop l.index l.right)) ≡ bytes_eq l.left l.right

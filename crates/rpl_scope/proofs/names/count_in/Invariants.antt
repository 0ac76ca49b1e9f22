use Rattle.std.proofs.Common.{◌≡◌, ◌+◌, drop, length}
use Rattle.rpl_scope.specs.inside.Held.{held}
use Rattle.rpl_scope.proofs.names.count_in.Given as goal

abbrev pub invariant-loop-table : goal.invariant-loop-table
invariant-loop-table l = l.count + length (held (drop l.table-index l.tables)) ≡ length (held l.tables)

use Rattle.std.proofs.Common.{drop}
use Rattle.rpl_scope.specs.inside.Held.{AreDisjoint, held}
use Rattle.rpl_scope.proofs.names.have_none_of.Given as goal

abbrev pub invariant-loop-table : goal.invariant-loop-table
invariant-loop-table l = AreDisjoint (held (drop l.table-index l.tables)) l.names → AreDisjoint (held l.tables) l.names

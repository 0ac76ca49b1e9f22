use Rattle.std.proofs.Common.{◌+◌}
use Rattle.rpl_check.specs.inside.Ranks.{Falls}
use Rattle.rpl_check.specs.inside.Within.{table_of, empty_in}
use Rattle.rpl_check.proofs.recursion.Block.falls.Given as goal

abbrev pub invariant-loop-place : goal.invariant-loop-place
invariant-loop-place l = Falls (table_of l.self) (empty_in l.self) l.self.start (l.self.start + l.place) l.ranks

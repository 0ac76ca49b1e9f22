use Rattle.rpl_check.specs.inside.Search.{AreClean}
use Rattle.rpl_check.specs.inside.Within.{IsLong, table_of, empty_in}
use Rattle.rpl_check.proofs.recursion.Block.mark_alone.Given as goal

abbrev pub invariant-loop-place : goal.invariant-loop-place
invariant-loop-place l = IsLong l.self l.clean × AreClean (table_of l.self) (empty_in l.self) l.self.start l.clean

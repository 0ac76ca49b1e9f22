use Rattle.rpl_check.specs.inside.Search.{AreClean}
use Rattle.rpl_check.specs.inside.Within.{table_of, empty_in}
use Rattle.rpl_check.proofs.recursion.Block.mark_in_turn.Given as goal

abbrev pub invariant-loop-place : goal.invariant-loop-place
invariant-loop-place l = AreClean (table_of l.self) (empty_in l.self) l.self.start l.clean

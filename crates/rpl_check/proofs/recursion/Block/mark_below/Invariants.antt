use Rattle.rpl_check.specs.inside.Rings.{AreBelow}
use Rattle.rpl_check.specs.inside.Within.{table_of, empty_in}
use Rattle.rpl_check.proofs.recursion.Block.mark_below.Given as goal

abbrev pub invariant-loop-rule : goal.invariant-loop-rule
invariant-loop-rule l = AreBelow (table_of l.self) (empty_in l.self) l.self.start l.roots l.below

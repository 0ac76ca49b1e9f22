use Rattle.std.proofs.Common.{◌+◌, ◌-◌, length}
use Rattle.rpl_core.specs.Marks.{unmarked}
use Rattle.rpl_check.proofs.Following.{Followed}
use Rattle.rpl_check.specs.inside.Within.{table_of, empty_in}
use Rattle.rpl_check.proofs.recursion.Block.reaches_itself.Given as goal

abbrev pub invariant-loop-next : goal.invariant-loop-next
invariant-loop-next l =
    Followed (table_of l.self) (empty_in l.self) l.number l.self.start (l.self.end - l.self.start) l.search

abbrev pub decreases-loop-next : goal.decreases-loop-next
decreases-loop-next l = length l.search.waiting.items + unmarked l.search.marks.items

use Rattle.std.proofs.Common.{◌+◌, length}
use Rattle.rpl_core.specs.Program.{instructions}
use Rattle.rpl_safe.specs.inside.Marks.{Found, unmarked}
use Rattle.rpl_safe.proofs.finding.find_marks.Given as goal

abbrev pub invariant-loop-address : goal.invariant-loop-address
invariant-loop-address l = Found (instructions l.program) l.search

abbrev pub decreases-loop-address : goal.decreases-loop-address
decreases-loop-address l = length l.search.waiting.items + unmarked l.search.marks.items

use Rattle.std.proofs.Common.{◌≡◌, length}
use Rattle.rpl_check.proofs.recursion.Block.note_caller.Given as goal

abbrev pub invariant-loop-rule : goal.invariant-loop-rule
invariant-loop-rule l = length l.turns.callers.items ≡ length l.fn.turns.callers.items

use Rattle.std.proofs.Common.{◌≡◌, length}
use Rattle.rpl_check.proofs.recursion.Turns.new.Given as goal

abbrev pub invariant-loop : goal.invariant-loop
invariant-loop l = length l.callers.items ≡ l.counter

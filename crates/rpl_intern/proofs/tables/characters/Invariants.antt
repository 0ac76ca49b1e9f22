use Rattle.std.proofs.Common.{◌≡◌}
use Rattle.rpl_intern.proofs.tables.characters.Given as goal

abbrev pub invariant-loop-c : goal.invariant-loop-c
invariant-loop-c l = l.all.items ≡ l.yielded

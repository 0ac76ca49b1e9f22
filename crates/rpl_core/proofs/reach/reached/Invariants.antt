use Rattle.std.proofs.Common.{◌≡◌, ℕ, ◌<◌, length}
use Rattle.rpl_core.specs.Marked.{has, marked}
use Rattle.rpl_core.proofs.reach.reached.Given as goal

abbrev pub invariant-loop-number : goal.invariant-loop-number
invariant-loop-number l =
    (length l.marks.items ≡ l.number) × ((r : ℕ) → r < l.number → marked l.marks.items r ≡ has l.found r)

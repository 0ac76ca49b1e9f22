use Rattle.std.proofs.Common.{◌≡◌, ◌≤◌, length}
use Rattle.std.specs.Prelude.{chars}
use Rattle.rpl_text.specs.Places.{at}
use Rattle.rpl_text.proofs.line.place_in.Given as goal

abbrev pub invariant-loop : goal.invariant-loop
invariant-loop l = (l.at ≡ at (chars l.line) l.counter) × (l.counter ≤ length (chars l.line))

use Rattle.std.proofs.Common.{◌≡◌, ◌≤◌, ◌-◌}
use Rattle.std.specs.Prelude.{chars}
use Rattle.rpl_text.specs.Places.{at, index}
use Rattle.rpl_text.proofs.line.back_in.Given as goal

abbrev pub invariant-loop : goal.invariant-loop
invariant-loop l = (l.at ≡ at (chars l.line) (index (chars l.line) l.fn.place - l.counter))
    × (l.counter ≤ index (chars l.line) l.fn.place)

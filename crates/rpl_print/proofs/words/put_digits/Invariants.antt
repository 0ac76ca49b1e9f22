use Rattle.std.proofs.Common.{◌≡◌, ◌≤◌, drop, false}
use Rattle.std.specs.Fmt.{digits, digits_onto}
use Rattle.rpl_print.proofs.words.put_digits.Given as goal

abbrev pub invariant-loop-start : goal.invariant-loop-start
invariant-loop-start l =
    record {
      place : l.start ≤ 64;
      left : digits_onto l.start 16 false l.rest (drop l.start l.room) ≡ digits 16 false l.number;
    }

abbrev pub decreases-loop-start : goal.decreases-loop-start
decreases-loop-start l = l.start

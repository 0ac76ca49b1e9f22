use Rattle.std.proofs.Common.{◌≡◌, ◌<◌, ◌^◌, drop}
use Rattle.rpl_text.specs.Numbers.{value}
use Rattle.rpl_text.proofs.numbers.value_of_digits.Given as goal

abbrev pub invariant-loop-i : goal.invariant-loop-i
invariant-loop-i l = record { fits : l.number < 2 ^ 64; same : value l.number (drop l.i l.digits) ≡ value 0 l.digits }

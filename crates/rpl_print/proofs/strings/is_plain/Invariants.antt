use Rattle.std.proofs.Common.{◌≡◌, length}
use Rattle.std.specs.Prelude.{◌&&◌}
use Rattle.rpl_print.specs.Quoted.{is_plain}
use Rattle.rpl_print.proofs.strings.is_plain.Given as goal

-- what was found so far and the bytes that are left decide
abbrev pub invariant-loop-rest : goal.invariant-loop-rest
invariant-loop-rest l = (l.is_all && is_plain l.rest) ≡ is_plain l.text

abbrev pub decreases-loop-rest : goal.decreases-loop-rest
decreases-loop-rest l = length l.rest

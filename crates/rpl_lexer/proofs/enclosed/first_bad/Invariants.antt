use Rattle.std.proofs.Common.{◌≡◌, drop}
use Rattle.std.specs.Prelude.{false}
use Rattle.rpl_lexer.specs.Enclosed.{bad, plus}
use Rattle.rpl_lexer.proofs.enclosed.first_bad.Given as goal

abbrev pub invariant-loop-i : goal.invariant-loop-i
invariant-loop-i l = plus l.i (bad l.hidden (drop l.i l.bytes)) ≡ bad false l.bytes

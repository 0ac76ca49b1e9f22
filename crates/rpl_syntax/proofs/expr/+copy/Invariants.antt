use Rattle.std.proofs.Common.{◌≡◌, take}
use Rattle.rpl_syntax.specs.View.{exprs_all, listed}
use Rattle.rpl_syntax.proofs.expr.+copy.Given as goal

abbrev pub invariant-Exprs::copy-loop-part : goal.invariant-Exprs::copy-loop-part
invariant-Exprs::copy-loop-part l = exprs_all (listed l.copies) ≡ exprs_all (take l.part-index (listed l.self))

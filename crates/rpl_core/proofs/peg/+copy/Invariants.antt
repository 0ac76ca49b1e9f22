use Rattle.std.proofs.Common.{◌≡◌, take}
use Rattle.rpl_core.specs.View.{cores, listed}
use Rattle.rpl_core.proofs.peg.+copy.Given as goal

abbrev pub invariant-Pegs::copy-loop-part : goal.invariant-Pegs::copy-loop-part
invariant-Pegs::copy-loop-part l = cores (listed l.copies) ≡ cores (take l.part-index (listed l.self))

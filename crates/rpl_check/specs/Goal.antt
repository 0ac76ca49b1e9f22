-- How contracts see a checked goal.
use Rattle.rpl_core.specs.declared.peg.Peg.{Peg}
use Rattle.rpl_check.specs.declared.checked.CheckedPeg.{CheckedPeg}

abbrev pub peg_of : CheckedPeg → Peg
peg_of g = g.peg

use Rattle.std.proofs.Common.{◌≡◌, drop}
use Rattle.rpl_check.specs.Loops.{any_has_empty_loop}
use Rattle.rpl_core.specs.View.{cores}
use Rattle.rpl_core.specs.Marks.{marked}
use Rattle.rpl_check.proofs.inside.+empty_loop.Given as goal

abbrev pub invariant-any_has_empty_loop-loop-part : goal.invariant-any_has_empty_loop-loop-part
invariant-any_has_empty_loop-loop-part l =
    any_has_empty_loop (marked l.empties) (cores l.parts)
    ≡ any_has_empty_loop (marked l.empties) (cores (drop l.part-index l.parts))

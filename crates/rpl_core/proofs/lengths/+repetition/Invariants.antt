use Rattle.std.proofs.Common.{◌≡◌, drop}
use Rattle.rpl_core.specs.Lengths.{any_has_repetition}
use Rattle.rpl_core.specs.View.{cores}
use Rattle.rpl_core.proofs.lengths.+repetition.Given as goal

abbrev pub invariant-any_has_repetition-loop-part : goal.invariant-any_has_repetition-loop-part
invariant-any_has_repetition-loop-part l =
    any_has_repetition (cores l.parts) ≡ any_has_repetition (cores (drop l.part-index l.parts))

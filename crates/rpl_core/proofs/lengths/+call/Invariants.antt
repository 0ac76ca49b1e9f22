use Rattle.std.proofs.Common.{◌≡◌, drop}
use Rattle.rpl_core.specs.Lengths.{any_has_call}
use Rattle.rpl_core.specs.View.{cores}
use Rattle.rpl_core.proofs.lengths.+call.Given as goal

abbrev pub invariant-any_has_call-loop-part : goal.invariant-any_has_call-loop-part
invariant-any_has_call-loop-part l = any_has_call (cores l.parts) ≡ any_has_call (cores (drop l.part-index l.parts))

use Rattle.std.proofs.Common.{◌≡◌, ◌+◌, ◌≤◌, drop}
use Rattle.std.specs.Prelude.{min}
use Rattle.rpl_core.specs.View.{cores}
use Rattle.rpl_core.specs.Lengths.{least_sum, least_of}
use Rattle.rpl_core.proofs.lengths.+least.Given as goal

abbrev pub invariant-least_sum-loop-part : goal.invariant-least_sum-loop-part
invariant-least_sum-loop-part l =
    (l.sum ≤ 65536) × (min 65536 (l.sum + least_sum (cores (drop l.part-index l.parts)))
    ≡ min 65536 (least_sum (cores l.parts)))

abbrev pub invariant-least_of-loop-part : goal.invariant-least_of-loop-part
invariant-least_of-loop-part l =
    (l.few ≤ 65536) × (min l.few (min 65536 (least_of (cores (drop l.part-index l.parts))))
    ≡ min 65536 (least_of (cores l.parts)))

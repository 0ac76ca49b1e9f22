use Rattle.std.proofs.Common.{◌≡◌, ◌+◌, ◌≤◌, drop}
use Rattle.std.specs.Prelude.{min, max}
use Rattle.rpl_core.specs.View.{cores}
use Rattle.rpl_core.specs.Lengths.{greatest_sum, greatest_of}
use Rattle.rpl_core.proofs.lengths.+greatest.Given as goal

abbrev pub invariant-greatest_sum-loop-part : goal.invariant-greatest_sum-loop-part
invariant-greatest_sum-loop-part l =
    (l.sum ≤ 256) × (min 256 (l.sum + greatest_sum (cores (drop l.part-index l.parts)))
    ≡ min 256 (greatest_sum (cores l.parts)))

abbrev pub invariant-greatest_of-loop-part : goal.invariant-greatest_of-loop-part
invariant-greatest_of-loop-part l = max l.most (min 256 (greatest_of (cores (drop l.part-index l.parts))))
    ≡ min 256 (greatest_of (cores l.parts))

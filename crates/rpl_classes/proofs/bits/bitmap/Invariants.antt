use Rattle.std.proofs.Common.{◌≡◌, ℕ, ◌+◌, ◌<◌, take}
use Rattle.std.specs.Prelude.{◌↔◌, true}
use Rattle.std.specs.Int.{bit_at}
use Rattle.regex_class.specs.Ranges.{in_ranges}
use Rattle.rpl_classes.proofs.bits.bitmap.Given as goal

abbrev pub invariant-loop-range : goal.invariant-loop-range
invariant-loop-range l = (k : ℕ) → k < 64
    → (bit_at l.bits k ≡ 1) ↔ (in_ranges (take l.range-index l.class.ranges.items) (l.start + k) ≡ true)

use Rattle.std.proofs.Common.{◌≡◌, ◌++◌, drop, string_bytes}
use Rattle.std.specs.Prelude.{flat_map}
use Rattle.rosie_inspect.specs.Classes.{line_of}
use Rattle.rosie_inspect.proofs.class.push_ranges.Given as goal

-- what is written, with the ranges that are left, is the whole
abbrev pub invariant-loop-range : goal.invariant-loop-range
invariant-loop-range l =
    string_bytes l.out ++ flat_map line_of (drop l.range-index l.ranges)
    ≡ string_bytes l.initial.out ++ flat_map line_of l.ranges

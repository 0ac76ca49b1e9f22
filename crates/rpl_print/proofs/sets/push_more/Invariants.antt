use Rattle.std.proofs.Common.{◌≡◌, ◌∷◌, ◌++◌, drop, string_bytes}
use Rattle.std.specs.Prelude.{flat_map}
use Rattle.rpl_print.specs.Sets.{range_text}
use Rattle.rpl_print.specs.inside.Behind.{StandsBefore}
use Rattle.rpl_print.proofs.sets.push_more.Given as goal

-- what is written, with the ranges that are left, is the whole, and what was there stands before it
abbrev pub invariant-loop-range : goal.invariant-loop-range
invariant-loop-range l = record {
  written :
      string_bytes l.out ++ flat_map (λ r. 32 ∷ range_text r) (drop l.range-index l.ranges)
      ≡ string_bytes l.initial.out ++ flat_map (λ r. 32 ∷ range_text r) l.ranges;
  stays : StandsBefore (string_bytes l.initial.out) (string_bytes l.out);
}

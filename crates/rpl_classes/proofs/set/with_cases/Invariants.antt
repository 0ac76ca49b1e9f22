use Rattle.std.proofs.Common.{◌≡◌, ℕ, ◌||◌, ◌&&◌}
use Rattle.regex_class.specs.Ranges.{in_ranges}
use Rattle.rpl_classes.specs.Algebra.{other_case}
use Rattle.rpl_classes.proofs.Cases.{is_cased}
use Rattle.rpl_classes.proofs.set.with_cases.Given as goal

abbrev pub invariant-loop-k : goal.invariant-loop-k
invariant-loop-k l =
    (c : ℕ) → in_ranges l.ranges.items c
    ≡ (in_ranges l.class.ranges.items c || (is_cased l.k c && in_ranges l.class.ranges.items (other_case c)))

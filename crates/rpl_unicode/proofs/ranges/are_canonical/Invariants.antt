use Rattle.std.proofs.Common.{◌≡◌, take}
use Rattle.regex_class.specs.Ranges.{IsCanonical}
use Rattle.regex_class.proofs.RangesLemmas.{next_free}
use Rattle.rpl_unicode.proofs.ranges.are_canonical.Given as goal

-- the ranges so far are in order, and the next one may start at the least number
abbrev pub invariant-loop-range : goal.invariant-loop-range
invariant-loop-range l = IsCanonical (take l.range-index l.ranges)
    × (next_free 0 (take l.range-index l.ranges) ≡ l.least)

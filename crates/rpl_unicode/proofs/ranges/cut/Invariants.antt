use Rattle.std.proofs.Common.{◌&&◌, take}
use Rattle.regex_class.specs.Ranges.{in_ranges, HasExactly}
use Rattle.rpl_text.specs.Characters.{is_char}
use Rattle.rpl_unicode.proofs.ranges.cut.Given as goal

abbrev pub invariant-loop-range : goal.invariant-loop-range
invariant-loop-range l = HasExactly l.parts.items (λ c. is_char c && in_ranges (take l.range-index l.ranges) c)

-- The ranges that a set holds.
use Rattle.std.specs.Prelude.{List}
use Rattle.regex_class.specs.Ranges.{Range}
use Rattle.rpl_classes.specs.declared.set.Ranges.{Ranges}
use Rattle.rpl_classes.specs.declared.set.Ranges.TheVariants.{One, Shared}

-- a single one, or those of the class that is shared
abbrev pub held : Ranges → List Range
held (One ranges) = ranges
held (Shared class) = class.value.ranges.items

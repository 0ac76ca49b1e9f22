-- The characters that a name stands for in Unicode: those of a binary property, a general category or a script (Unicode
-- Standard Annex 44). Names are compared loosely (rule UAX44-LM3): in any case, and without spaces, `_`, `-` and `is`.
use Rattle.std.specs.Prelude.{ℕ, Bool, List, Option}
use Rattle.std.specs.Option.{option_map}
use Rattle.unicode.specs.Loose.{normalize}
use Rattle.unicode.specs.Lookup.{by_name}
use Rattle.unicode.specs.Sets.{in_set}

-- the test of the set with the name, where there is one
unfoldable pub members : List ℕ → Option (ℕ → Bool)
members name = option_map in_set (by_name (normalize name))

-- The text of a class of characters: a line for each of its ranges.
use Rattle.std.specs.Prelude.{ℕ, List, [], ◌∷◌, ◌++◌, flat_map, codes}
use Rattle.regex_class.specs.Ranges.{Range}
use Rattle.rpl_print.specs.Sets.{range_text}

abbrev pub line_of : Range → List ℕ
line_of r = range_text r ++ 10 ∷ []

abbrev pub class_text : List Range → List ℕ
class_text [] = codes "none\n"
class_text (r ∷ rs) = flat_map line_of (r ∷ rs)

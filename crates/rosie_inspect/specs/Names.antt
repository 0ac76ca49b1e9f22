-- What is printed for the names that a pattern may use.
use Rattle.std.specs.Prelude.{◌≡◌, ℕ, List, ◌++◌, Option, Some, None, codes, map}
use Rattle.std.specs.Cmp.Lexicographic.{slice_cmp}
use Rattle.std.specs.List.{concat}
use Rattle.std.specs.List.Sorted.{IsPermutation, IsSorted}
use Rattle.std.specs.Ordering.{nat_cmp}
use Rattle.std.specs.Str.{encode_utf8_all}
use Rattle.rpl_names.specs.declared.names.Listed.{Listed}

-- the type of a name's nodes, or a mark where it makes none
abbrev pub label_text : Option (List ℕ) → List ℕ
label_text None = codes " alias -"
label_text (Some label) = codes " capture " ++ encode_utf8_all label

abbrev pub name_line : Listed → List ℕ
name_line l = encode_utf8_all l.name ++ label_text l.label ++ codes "\n"

-- The text has a line for each name, in the order of the lines' bytes. That is the order of the names if they contain
-- no space and no byte that sorts before it (`LinesFollowNames`).
pub record IsNamesText (names : List Listed) (text : List ℕ) : Type 0 where
  pub lines : List (List ℕ)
  pub members : IsPermutation (map name_line names) lines
  pub order : IsSorted (slice_cmp nat_cmp) lines
  pub same : text ≡ concat lines

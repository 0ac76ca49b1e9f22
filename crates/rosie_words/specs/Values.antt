-- The forms of values.
use Rattle.std.specs.Prelude.{ℕ, ◌==◌, Bool, true, false, ◌&&◌, not, nat_le, List, [], ◌∷◌}
use Rattle.std.specs.Prelude.{Option, Some, None, is_some, chars, codes, find, map, if◌then◌else◌}
use Rattle.std.specs.Str.{bytes_eq}
use Rattle.std.specs.List.{list_all, slice_split}
use Rattle.rpl_text.specs.Numbers.{are_digits, value}
use Rattle.rpl_encode.specs.declared.style.Style.{Style}
use Rattle.rpl_encode.specs.declared.style.Style.TheVariants as S
use Rattle.rosie_words.specs.Table.{Word, Form, Folders, OneStyle, Number}

-- the name of a style
abbrev pub style_word : Style → Word
style_word S.Json = codes "json"
style_word S.Line = codes "line"
style_word S.Matches = codes "matches"
style_word S.Subs = codes "subs"
style_word S.Plain = codes "data"
style_word S.Bool = codes "bool"

-- the style that a word names
abbrev pub style_named : Word → Option Style
style_named w =
    find (λ s. bytes_eq w (style_word s)) (S.Json ∷ S.Line ∷ S.Matches ∷ S.Subs ∷ S.Plain ∷ S.Bool ∷ [])

-- the number that a word spells, where it is in the range
abbrev pub number_in : ℕ → ℕ → Word → Option ℕ
number_in least most w =
    if are_digits w && nat_le least (value 0 w) && nat_le (value 0 w) most then Some (value 0 w) else None

-- no byte
abbrev pub is_empty : Word → Bool
is_empty [] = true
is_empty (b ∷ bs) = false

-- the parts of a word between colons
abbrev pub parts : Word → List Word
parts w = slice_split (λ b. b == 58) w

-- the folders of a library path, where none is empty
abbrev pub path_of : Word → Option (List (List ℕ))
path_of w = if list_all (λ p. not (is_empty p)) (parts w) then Some (map chars (parts w)) else None

-- the number of an option's value
abbrev pub number_of : Form → Word → Option ℕ
number_of (Number least most) w = number_in least most w
number_of form w = None

-- the word is a value of the form
abbrev pub accepts : Form → Word → Bool
accepts Folders w = is_some (path_of w)
accepts OneStyle w = is_some (style_named w)
accepts (Number least most) w = is_some (number_in least most w)
accepts _ w = true

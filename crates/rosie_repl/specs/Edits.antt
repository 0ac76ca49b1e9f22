-- The commands of a session, and which line is which. Texts and lines are bytes; only ASCII bytes decide.
use Rattle.std.specs.Prelude.{ℕ, ◌==◌, Bool, List, Option, Some, None, option_map, codes, chars, if◌then◌else◌}
use Rattle.std.specs.List.{list_any, before_first, after_first}
use Rattle.std.specs.Str.{bytes_eq}
use Rattle.rpl_text.specs.Numbers.{number_of}

-- a text is added, takes the place of another, or is taken away; a pattern is kept; a line is tried; the last change is
-- undone
pub data Edit : Type 0 where
  Add : (text : List ℕ) → Edit
  Replace : (number : ℕ) (text : List ℕ) → Edit
  Remove : (number : ℕ) → Edit
  Pattern : (text : List ℕ) → Edit
  Try : (line : List ℕ) → Edit
  Undo : Edit

abbrev pub is_space : ℕ → Bool
is_space b = b == 32

-- a number, a space, and a text after it
abbrev pub replaces : List ℕ → Option Edit
replaces rest =
    if list_any is_space rest
    then option_map (λ k. Replace k (after_first is_space rest)) (number_of (before_first is_space rest))
    else None

-- the command of a sign and of what stands after the first space
abbrev pub by_sign : List ℕ → List ℕ → Option Edit
by_sign sign rest =
    if bytes_eq sign (codes "+") then Some (Add rest)
    else (if bytes_eq sign (codes "=") then replaces rest
    else (if bytes_eq sign (codes "-") then option_map Remove (number_of rest)
    else (if bytes_eq sign (codes "?") then Some (Pattern rest)
    else (if bytes_eq sign (codes ">") then Some (Try rest)
    else None))))

-- the command of a line: its sign stands before its first space; only `u` has none
abbrev pub edit_of : List ℕ → Option Edit
edit_of line =
    if list_any is_space line then by_sign (before_first is_space line) (after_first is_space line)
    else (if bytes_eq line (codes "u") then Some Undo else None)

-- the same edit with its texts as characters; a line that is tried stays bytes
abbrev pub in_chars : Edit → Edit
in_chars (Add text) = Add (chars text)
in_chars (Replace k text) = Replace k (chars text)
in_chars (Pattern text) = Pattern (chars text)
in_chars e = e

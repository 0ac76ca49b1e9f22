-- The lines that a job receives: those of its inputs, one input after the other, that are text and not too long.
use Rattle.rosie_io.specs.Lines.{lines}
use Rattle.rosie_io.specs.Opening.{file_of}
use Rattle.rosie_run.specs.Inputs.{is_standard, left_after}
use Rattle.rosie_run.specs.declared.lines.Reading.{Reading}
use Rattle.std.specs.List.{filter}
use Rattle.std.specs.Prelude.{if◌then◌else◌, ◌++◌, ◌∷◌, Bool, List, None, Option, Some, [], false, length, nat_lt, ℕ}
use Rattle.std.specs.Str.{is_utf8}

-- a line that is given, where one may have so many bytes
abbrev pub is_given : (most : ℕ) → List ℕ → Bool
is_given most line = if nat_lt most (length line) then false else is_utf8 line

-- those of an input with these bytes, and of a file, if there is one
abbrev pub bytes_given : Reading → List ℕ → List (List ℕ)
bytes_given r bytes = filter (is_given r.most) (lines r.whole bytes)

abbrev pub file_given : Reading → Option (List ℕ) → List (List ℕ)
file_given r None = []
file_given r (Some bytes) = bytes_given r bytes

-- those of one input, given the tree and what is left of the standard input
abbrev pub one_given : Reading → List (List ℕ × List ℕ) → List ℕ → List ℕ → List (List ℕ)
one_given r tree left name = if is_standard name then bytes_given r left else file_given r (file_of name tree)

-- and of the inputs with these names in turn
unfoldable pub inputs_given : Reading → List (List ℕ × List ℕ) → List ℕ → List (List ℕ) → List (List ℕ)
inputs_given r tree left [] = []
inputs_given r tree left (name ∷ more) =
    one_given r tree left name ++ inputs_given r tree (left_after name left) more

-- The inputs of a run in turn, and their pieces.
use Rattle.rosie_io.specs.Opening.{file_of}
use Rattle.rosie_run.specs.Lines.{Makes, input_message, input_pieces}
use Rattle.rosie_run.specs.Report.{Piece, stop_piece}
use Rattle.rosie_run.specs.declared.lines.Reading.{Reading}
use Rattle.std.specs.List.{list_any}
use Rattle.std.specs.Prelude.{if◌then◌else◌, ◌≡◌, ◌++◌, ◌∷◌, Bool, List, None, Option, Some, [], codes, map, not, true}
use Rattle.std.specs.Prelude.{ℕ}
use Rattle.std.specs.Str.{bytes_eq}

-- the name of the standard input
abbrev pub is_standard : List ℕ → Bool
is_standard name = bytes_eq name (codes "-")

-- the pieces of a file; where there is none the run ends
abbrev pub file_pieces : Makes → Reading → List ℕ → Option (List ℕ) → List Piece
file_pieces makes r path None = stop_piece (input_message r.tool path (codes "no such file")) ∷ []
file_pieces makes r path (Some bytes) = input_pieces makes r path bytes

-- the pieces of one input, given the tree and what is left of the standard input
abbrev pub one_pieces : Makes → Reading → List (List ℕ × List ℕ) → List ℕ → List ℕ → List Piece
one_pieces makes r tree left name =
    if is_standard name then input_pieces makes r name left else file_pieces makes r name (file_of name tree)

-- what is left of the standard input then
abbrev pub left_after : List ℕ → List ℕ → List ℕ
left_after name left = if is_standard name then [] else left

-- the pieces of the inputs with these names in turn
unfoldable pub inputs_pieces : Makes → Reading → List (List ℕ × List ℕ) → List ℕ → List (List ℕ) → List Piece
inputs_pieces makes r tree left [] = []
inputs_pieces makes r tree left (name ∷ more) =
    one_pieces makes r tree left name ++ inputs_pieces makes r tree (left_after name left) more

-- the standard input is among them
abbrev pub reads_standard : List (List ℕ) → Bool
reads_standard names = list_any is_standard names

-- a file is among them
abbrev pub reads_file : List (List ℕ) → Bool
reads_file names = list_any (λ name. not (is_standard name)) names

-- what is read of them is told: the standard input and the files, each where it is among them
pub record AreTold (names : List (List ℕ)) (files input : Type 0) : Type 0 where
  pub of_input : reads_standard names ≡ true → input
  pub of_files : reads_file names ≡ true → files

-- the texts of some names
abbrev pub names_of : {Z : Type 0} → (Z → List ℕ) → List Z → List (List ℕ)
names_of f xs = map f xs

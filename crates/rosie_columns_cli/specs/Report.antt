-- The report of a call: what it writes over the tree of files and the standard input, piece by piece.
use Rattle.std.specs.Prelude.{ℕ, Bool, true, false, if◌then◌else◌, List, [], ◌∷◌, ◌++◌, map, Result, Ok, Err}
use Rattle.std.specs.Str.{encode_utf8_all}
use Rattle.rosie_run.specs.Given.{inputs_given}
use Rattle.rosie_run.specs.Inputs.{inputs_pieces}
use Rattle.rosie_run.specs.Report.{Piece, has, is_hit, stop_piece, up_to_stop}
use Rattle.rosie_run.specs.declared.lines.Reading.{Reading}
use Rattle.rosie_run.specs.declared.mark.Mark.TheVariants.{Miss}
use Rattle.rosie_run.specs.declared.tool.Tool.TheVariants.{RosieColumns}
use Rattle.rpl_columns.specs.Rows.{header}
use Rattle.rosie_columns_cli.specs.Absent.{absent_text, never_found}
use Rattle.rosie_columns_cli.specs.Faults.{refusal}
use Rattle.rosie_columns_cli.specs.Lines.{makes}
use Rattle.rosie_columns_cli.specs.declared.fault.WordFault.{WordFault}
use Rattle.rosie_columns_cli.specs.declared.words.Asked.{Asked}

-- the files, by their paths
abbrev pub Tree : Type 0
Tree = List (List ℕ × List ℕ)

-- how the inputs are read: line by line, and a line may have as many bytes as an answer from `rosie` may
abbrev pub by_lines : Reading
by_lines = record { tool = RosieColumns; whole = false; most = 67108864 }

abbrev pub inputs_of : Asked → List (List ℕ)
inputs_of a = map encode_utf8_all a.names

-- the row of names comes first, unless it is to be omitted
abbrev pub header_text : Asked → List ℕ
header_text a = if a.no_header then [] else header a.sheet

-- then, for each line of these inputs, its row or its message
abbrev pub rows : Asked → Tree → (input : List ℕ) → (names : List (List ℕ)) → List Piece
rows a tree input names = inputs_pieces (makes a.sheet) by_lines tree input names

-- and at the end, if there was a tree, a line for each column for which no tree had a node
abbrev pub last_text : Asked → Tree → (input : List ℕ) → List ℕ
last_text a tree input =
    if has is_hit (rows a tree input (inputs_of a))
    then absent_text (never_found a.sheet.columns (inputs_given by_lines tree input (inputs_of a))) else []

abbrev pub are_any : List ℕ → Bool
are_any [] = false
are_any (b ∷ bs) = true

abbrev pub has_last : Asked → Tree → (input : List ℕ) → Bool
has_last a tree input = are_any (last_text a tree input)

-- a text that is no row
abbrev pub note : (out err : List ℕ) → Piece
note out err = record { out = out; err = err; mark = Miss; cost = 0 }

abbrev pub pieces : Result Asked WordFault → Tree → (input : List ℕ) → List Piece
pieces (Err fault) tree input = stop_piece (refusal fault) ∷ []
pieces (Ok a) tree input =
    note (header_text a) [] ∷ (rows a tree input (inputs_of a) ++ note [] (last_text a tree input) ∷ [])

-- nothing follows a piece that ends the run, as the message of a file that is missing does
unfoldable pub report : Result Asked WordFault → Tree → (input : List ℕ) → List Piece
report asked tree input = up_to_stop (pieces asked tree input)

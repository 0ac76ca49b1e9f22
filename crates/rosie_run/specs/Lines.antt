-- The lines of an input, as pieces, given the piece that a job makes for a line of text.
use Rattle.rosie_io.specs.Lines.{feeds, lines}
use Rattle.rosie_run.specs.Report.{Piece, fault_piece}
use Rattle.rosie_run.specs.declared.lines.Reading.{Reading}
use Rattle.std.specs.Fmt.{decimal}
use Rattle.std.specs.Prelude.{if◌then◌else◌, ◌++◌, ◌+◌, ◌∷◌, Bool, List, [], codes, false, length, nat_lt, true, ℕ}
use Rattle.std.specs.Str.{is_utf8}
use Rattle.rosie_io.specs.declared.stop.ReadStop.{ReadStop}
use Rattle.rosie_io.specs.declared.stop.ReadStop.TheVariants.{ReadFault, Spent}
use Rattle.rosie_run.specs.Tools.{name_of}
use Rattle.rosie_run.specs.declared.tool.Tool.{Tool}
use Rattle.rosie_run.specs.declared.tool.Tool.TheVariants.{Rosie}

-- what a program says about an input, and about one of its lines
unfoldable pub input_message : Tool → List ℕ → List ℕ → List ℕ
input_message tool file text = name_of tool ++ (codes ": " ++ (file ++ (codes ": " ++ (text ++ codes "\n"))))

unfoldable pub line_message : Tool → List ℕ → ℕ → List ℕ → List ℕ
line_message tool file n text =
    name_of tool ++ (codes ": " ++ (file ++ (codes ":" ++ (decimal n ++ (codes ": " ++ (text ++ codes "\n"))))))

-- and what `rosie` says
abbrev pub input_fault : List ℕ → List ℕ → List ℕ
input_fault file text = input_message Rosie file text

abbrev pub line_fault : List ℕ → ℕ → List ℕ → List ℕ
line_fault file n text = line_message Rosie file n text

-- what a job makes of a line of text: of the input's name, the line's number and its text
abbrev pub Makes : Type 0
Makes = List ℕ → ℕ → List ℕ → Piece

-- the piece of the line with the number n: the line may be too long, or no text
unfoldable pub line_piece : Makes → Reading → List ℕ → ℕ → List ℕ → Piece
line_piece makes r file n line =
    if nat_lt r.most (length line) then fault_piece (line_message r.tool file n (codes "line too long"))
    else (if is_utf8 line then makes file n line else fault_piece (line_message r.tool file n (codes "not UTF-8")))

-- the pieces of lines, of which n others come before
unfoldable pub pieces_from : Makes → Reading → List ℕ → ℕ → List (List ℕ) → List Piece
pieces_from makes r file n [] = []
pieces_from makes r file n (line ∷ more) =
    line_piece makes r file (n + 1) line ∷ pieces_from makes r file (n + 1) more

-- the pieces of an input with these bytes, which is called `file`
abbrev pub input_pieces : Makes → Reading → List ℕ → List ℕ → List Piece
input_pieces makes r file bytes = pieces_from makes r file 0 (lines r.whole bytes)

-- how many lines were passed where these bytes were taken, and no end
abbrev pub passed : Bool → List ℕ → ℕ
passed true got = 0
passed false got = feeds got

abbrev pub stop_text : ReadStop → List ℕ
stop_text ReadFault = codes "read failed"
stop_text Spent = codes "reads spent"

-- What the words ask for, or their first fault: word by word, given the state after the words before.
use Rattle.std.specs.Prelude.{ℕ, ◌==◌, Bool, true, false, if◌then◌else◌, ◌||◌, List, [], ◌∷◌, ◌++◌, map, chars, codes}
use Rattle.std.specs.Prelude.{Option, None, Some, Result, Ok, Err, String, string_bytes}
use Rattle.std.specs.Str.{bytes_eq}
use Rattle.rpl_columns.specs.Columns.{column_of, spelled}
use Rattle.rpl_columns.specs.declared.column.Column.{Column}
use Rattle.rpl_columns.specs.declared.format.Format.{Format}
use Rattle.rpl_columns.specs.declared.format.Format.TheVariants.{Csv, Tsv, Json}
use Rattle.rpl_columns.specs.declared.row.Sheet.{Sheet}
use Rattle.rosie_columns_cli.specs.declared.fault.WordFault.{WordFault}
use Rattle.rosie_columns_cli.specs.declared.fault.WordFault.TheVariants as E
use Rattle.rosie_columns_cli.specs.declared.words.Asked.{Asked}
use Rattle.rosie_columns_cli.specs.declared.words.Front.{Front}
use Rattle.rosie_columns_cli.specs.declared.words.Front.TheVariants as F
use Rattle.rosie_columns_cli.specs.declared.words.Reader.{Reader}
use Rattle.rosie_columns_cli.specs.declared.words.Role.{Role}
use Rattle.rosie_columns_cli.specs.declared.words.Role.TheVariants as R

-- a word, as its bytes, and the bytes of each word
abbrev pub Word : Type 0
Word = List ℕ

abbrev pub words_of : {Z : Type 0} → List (String Z) → List Word
words_of ws = map string_bytes ws

-- what a word is, where an option may stand
abbrev pub is_option : Word → Bool
is_option [] = false
is_option (b ∷ bs) = b == 45

abbrev pub is_one_of : Word → Word → Word → Bool
is_one_of w short long = bytes_eq w short || bytes_eq w long

abbrev pub role_of : Word → Role
role_of w =
    if is_one_of w (codes "-o") (codes "--output") then R.Output
    else (if is_one_of w (codes "-j") (codes "--join") then R.Join
    else (if is_one_of w (codes "-n") (codes "--no-header") then R.NoHeader
    else (if bytes_eq w (codes "--") then R.Names
    else (if is_option w then R.Unknown else R.Column))))

-- the format that a word names
abbrev pub format_named : Word → Option Format
format_named w =
    if bytes_eq w (codes "csv") then Some Csv
    else (if bytes_eq w (codes "tsv") then Some Tsv
    else (if bytes_eq w (codes "json") then Some Json else None))

-- before the first word
abbrev pub start : Reader
start = record {
  front = F.Free;
  asked = record { sheet = record { format = Csv; columns = []; joint = None }; no_header = false; names = [] };
}

-- what is asked for with another sheet, with no header, and with a name more
abbrev pub with_sheet : Asked → Sheet → Reader
with_sheet a sheet =
    record { front = F.Free; asked = record { sheet = sheet; no_header = a.no_header; names = a.names } }

abbrev pub without_header : Asked → Reader
without_header a =
    record { front = F.Free; asked = record { sheet = a.sheet; no_header = true; names = a.names } }

abbrev pub with_name : Asked → Word → Reader
with_name a w =
    record {
      front = F.Names;
      asked = record { sheet = a.sheet; no_header = a.no_header; names = a.names ++ chars w ∷ [] };
    }

-- what is asked for, where this comes next
abbrev pub expecting : Front → Asked → Reader
expecting front a = record { front = front; asked = a }

-- a column, if the word is one
abbrev pub with_column : Asked → Word → Option Column → Result Reader WordFault
with_column a w None = Err (E.BadColumn (chars w))
with_column a w (Some c) =
    Ok (with_sheet a (record { format = a.sheet.format; columns = a.sheet.columns ++ c ∷ []; joint = a.sheet.joint }))

-- a format, if the word names one
abbrev pub with_format : Asked → Word → Option Format → Result Reader WordFault
with_format a w None = Err (E.BadValue (chars w))
with_format a w (Some f) =
    Ok (with_sheet a (record { format = f; columns = a.sheet.columns; joint = a.sheet.joint }))

abbrev pub with_joint : Asked → Word → Reader
with_joint a w =
    with_sheet a (record { format = a.sheet.format; columns = a.sheet.columns; joint = Some (spelled w) })

-- one word more, where an option may stand
abbrev pub taken_as : Asked → Word → Role → Result Reader WordFault
taken_as a w R.Column = with_column a w (column_of w)
taken_as a w R.Output = Ok (expecting F.Format a)
taken_as a w R.Join = Ok (expecting F.Joint a)
taken_as a w R.NoHeader = Ok (without_header a)
taken_as a w R.Names = Ok (expecting F.Names a)
taken_as a w R.Unknown = Err (E.UnknownOption (chars w))

-- one word more
abbrev pub taken_at : Front → Asked → Word → Result Reader WordFault
taken_at F.Free a w = taken_as a w (role_of w)
taken_at F.Format a w = with_format a w (format_named w)
taken_at F.Joint a w = Ok (with_joint a w)
taken_at F.Names a w = Ok (with_name a w)

abbrev pub taken : Reader → Word → Result Reader WordFault
taken r w = taken_at r.front r.asked w

-- the words one after the other
abbrev pub go_on : (Reader → Result Reader WordFault) → Result Reader WordFault → Result Reader WordFault
go_on read (Ok r) = read r
go_on read (Err e) = Err e

unfoldable pub all_taken : Reader → List Word → Result Reader WordFault
all_taken r [] = Ok r
all_taken r (w ∷ ws) = go_on (λ r'. all_taken r' ws) (taken r w)

-- without a column all fields are asked for, as JSON, with no text between texts
abbrev pub has_columns : List Column → Format → Option Word → Bool
has_columns (c ∷ cs) format joint = true
has_columns [] Json None = true
has_columns [] format joint = false

-- without a name the standard input is read
abbrev pub or_standard : List (List ℕ) → List (List ℕ)
or_standard [] = chars (codes "-") ∷ []
or_standard (n ∷ ns) = n ∷ ns

abbrev pub whole : Asked → Asked
whole a = record { sheet = a.sheet; no_header = a.no_header; names = or_standard a.names }

abbrev pub wholly : Asked → Result Asked WordFault
wholly a = if has_columns a.sheet.columns a.sheet.format a.sheet.joint then Ok (whole a) else Err E.NoColumn

abbrev pub last_of : Word → List Word → Word
last_of w [] = w
last_of w (v ∷ vs) = last_of v vs

-- no word follows
abbrev pub finished_at : Front → Word → Asked → Result Asked WordFault
finished_at F.Format last a = Err (E.MissingValue (chars last))
finished_at F.Joint last a = Err (E.MissingValue (chars last))
finished_at front last a = wholly a

abbrev pub finished : List Word → Reader → Result Asked WordFault
finished ws r = finished_at r.front (last_of [] ws) r.asked

abbrev pub finish : List Word → Result Reader WordFault → Result Asked WordFault
finish ws (Ok r) = finished ws r
finish ws (Err e) = Err e

unfoldable pub reading : List Word → Result Asked WordFault
reading ws = finish ws (all_taken start ws)

-- The row of a tree, and the row of names before the first.
use Rattle.std.specs.Prelude.{ℕ, Bool, true, false, List, [], ◌∷◌, ◌++◌, map, flat_map, codes, is_some}
use Rattle.std.specs.Prelude.{Option, None, Some}
use Rattle.rpl_columns.specs.Cells.{between, csv_cell, tsv_cell, text_of}
use Rattle.rpl_columns.specs.Columns.{picked}
use Rattle.rpl_columns.specs.Fields.{fields_row}
use Rattle.rpl_columns.specs.Nodes.{Seen}
use Rattle.rpl_columns.specs.declared.column.Column.{Column}
use Rattle.rpl_columns.specs.declared.row.Sheet.{Sheet}
use Rattle.rpl_columns.specs.declared.format.Format.{Format}
use Rattle.rpl_columns.specs.declared.format.Format.TheVariants.{Csv, Tsv, Json}

-- the first of these texts, or all with a joint between them
abbrev pub joined : Option (List ℕ) → List (List ℕ) → Option (List ℕ)
joined joint [] = None
joined None (text ∷ more) = Some text
joined (Some joint) (text ∷ more) = Some (text ++ flat_map (λ t. joint ++ t) more)

abbrev pub or_nothing : Option (List ℕ) → List ℕ
or_nothing None = []
or_nothing (Some text) = text

-- a member of a JSON object
abbrev pub member : List ℕ → Option (List ℕ) → List ℕ
member name None = codes "\"" ++ (name ++ codes "\":null")
member name (Some text) = codes "\"" ++ (name ++ (codes "\":\"" ++ (text ++ codes "\"")))

-- a cell, of the name of its column and of its text, if there is one: both as JSON spells them between quotes
abbrev pub cell : Format → List ℕ → Option (List ℕ) → List ℕ
cell Csv name text = csv_cell (text_of (or_nothing text))
cell Tsv name text = tsv_cell (text_of (or_nothing text))
cell Json name text = member name text

abbrev pub separator : Format → ℕ
separator Csv = 44
separator Tsv = 9
separator Json = 44

abbrev pub opening : Format → List ℕ
opening Json = codes "{"
opening _ = []

abbrev pub closing : Format → List ℕ
closing Json = codes "}\n"
closing _ = codes "\n"

-- a row of one empty cell would be an empty line in CSV
abbrev pub no_blank : Format → List ℕ → List ℕ
no_blank Csv [] = codes "\"\""
no_blank Csv (b ∷ bs) = b ∷ bs
no_blank Tsv cells = cells
no_blank Json cells = cells

abbrev pub row_text : Format → List (List ℕ) → List ℕ
row_text format cells = opening format ++ (no_blank format (between (separator format) cells) ++ closing format)

-- the cell of a column
abbrev pub cell_of : Format → Option (List ℕ) → List Seen → Column → List ℕ
cell_of format joint nodes c = cell format c.name (joined joint (picked c None nodes))

-- the cells of a tree with these nodes
abbrev pub cells : Sheet → List Seen → List Column → List (List ℕ)
cells sheet nodes columns = map (cell_of sheet.format sheet.joint nodes) columns

-- its row; without columns it has all fields
abbrev pub row_by : Sheet → List Seen → List Column → List ℕ
row_by sheet nodes [] = fields_row nodes
row_by sheet nodes (c ∷ cs) = row_text sheet.format (cells sheet nodes (c ∷ cs))

unfoldable pub row : Sheet → List Seen → List ℕ
row sheet nodes = row_by sheet nodes sheet.columns

-- the names of the columns
abbrev pub name_cell : Format → Column → List ℕ
name_cell format c = cell format c.name (Some c.name)

abbrev pub names : Format → List Column → List (List ℕ)
names format columns = map (name_cell format) columns

-- the row of the names; objects of JSON have their names in them
abbrev pub header_by : Format → List Column → List ℕ
header_by Json columns = []
header_by format columns = row_text format (names format columns)

unfoldable pub header : Sheet → List ℕ
header sheet = header_by sheet.format sheet.columns

-- the column takes a node of the tree with these nodes
abbrev pub occurs : Column → List Seen → Bool
occurs c nodes = is_some (joined None (picked c None nodes))

-- ---- for private clauses

-- a text, where one was found
abbrev pub found_text : Bool → List ℕ → Option (List ℕ)
found_text true text = Some text
found_text false text = None

-- what a cell comes to that has this text already, if it has one
abbrev pub onto : List ℕ → Bool → List ℕ → List (List ℕ) → Option (List ℕ)
onto joint false so_far texts = joined (Some joint) texts
onto joint true so_far texts = Some (so_far ++ flat_map (λ t. joint ++ t) texts)

-- a cell with one text more
abbrev pub added : List ℕ → Bool → List ℕ → List ℕ → List ℕ
added joint false so_far text = so_far ++ text
added joint true so_far text = so_far ++ (joint ++ text)

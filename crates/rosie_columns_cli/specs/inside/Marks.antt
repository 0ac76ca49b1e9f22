-- Which columns have a mark, and how contracts see a job.
use Rattle.std.specs.Prelude.{ℕ, Bool, if◌then◌else◌, ◌||◌, List, [], ◌∷◌}
use Rattle.rpl_columns.specs.Nodes.{Seen}
use Rattle.rpl_columns.specs.Rows.{occurs}
use Rattle.rpl_columns.specs.declared.column.Column.{Column}
use Rattle.rpl_columns.specs.declared.row.Sheet.{Sheet}
use Rattle.rosie_columns_cli.specs.Absent.{absent_text, is_found}
use Rattle.rosie_columns_cli.specs.declared.job.ColumnsJob.{ColumnsJob}

-- the columns without a mark
abbrev pub unfound : List Column → List Bool → List Column
unfound [] marks = []
unfound (c ∷ cs) [] = []
unfound (c ∷ cs) (mark ∷ marks) = if mark then unfound cs marks else c ∷ unfound cs marks

-- the marks after a tree with these nodes, and after these lines
abbrev pub noted : List Column → List Bool → List Seen → List Bool
noted [] marks nodes = marks
noted (c ∷ cs) [] nodes = []
noted (c ∷ cs) (mark ∷ marks) nodes = (mark || occurs c nodes) ∷ noted cs marks nodes

abbrev pub marked : List Column → List Bool → List (List ℕ) → List Bool
marked [] marks lines = marks
marked (c ∷ cs) [] lines = []
marked (c ∷ cs) (mark ∷ marks) lines = (mark || is_found c lines) ∷ marked cs marks lines

abbrev pub sheet_of : ColumnsJob → Sheet
sheet_of j = j.sheet.now

abbrev pub found_of : ColumnsJob → List Bool
found_of j = j.found.items

-- what it says at the end, where these lines are still to come
abbrev pub said_after : Sheet → List Bool → List (List ℕ) → List ℕ
said_after sheet marks lines = absent_text (unfound sheet.columns (marked sheet.columns marks lines))

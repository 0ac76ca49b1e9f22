-- What is reported at the end: for which columns no tree had a node.
use Rattle.std.specs.Prelude.{ℕ, Bool, false, not, List, ◌++◌, flat_map, codes, Option, None, Some}
use Rattle.std.specs.List.{filter, list_any}
use Rattle.rpl_columns.specs.Nodes.{Seen, tree_in}
use Rattle.rpl_columns.specs.Rows.{occurs}
use Rattle.rpl_columns.specs.declared.column.Column.{Column}

-- a tree with these nodes, if there is one, has a node of the column
abbrev pub has_node : Column → Option (List Seen) → Bool
has_node c None = false
has_node c (Some nodes) = occurs c nodes

-- one of these lines is a tree that has one
abbrev pub is_found : Column → List (List ℕ) → Bool
is_found c lines = list_any (λ line. has_node c (tree_in line)) lines

-- the columns of which none has one
abbrev pub never_found : List Column → List (List ℕ) → List Column
never_found cs lines = filter (λ c. not (is_found c lines)) cs

-- a line for each
abbrev pub absent_line : Column → List ℕ
absent_line c = codes "rosie-columns: column never found: " ++ (c.name ++ codes "\n")

unfoldable pub absent_text : List Column → List ℕ
absent_text cs = flat_map absent_line cs

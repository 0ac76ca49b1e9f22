-- The output for a line: a row if the line is a tree, or a message.
use Rattle.std.specs.Prelude.{ℕ, List, Option, None, Some, codes}
use Rattle.rosie_run.specs.Lines.{line_message, Makes}
use Rattle.rosie_run.specs.Report.{Piece, fault_piece, text_piece}
use Rattle.rosie_run.specs.declared.tool.Tool.TheVariants.{RosieColumns}
use Rattle.rpl_columns.specs.Nodes.{Seen, tree_in}
use Rattle.rpl_columns.specs.Rows.{row}
use Rattle.rpl_columns.specs.declared.row.Sheet.{Sheet}

-- of a line with these nodes, if it is a tree
abbrev pub made : Sheet → List ℕ → ℕ → Option (List Seen) → Piece
made sheet file n None = fault_piece (line_message RosieColumns file n (codes "no tree"))
made sheet file n (Some nodes) = text_piece (row sheet nodes)

abbrev pub makes : Sheet → Makes
makes sheet file n line = made sheet file n (tree_in line)

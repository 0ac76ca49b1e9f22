use Rattle.std.proofs.Common.{◌≡◌, ◌++◌, drop, map}
use Rattle.rpl_columns.specs.Nodes.{seen}
use Rattle.rpl_columns.specs.Cells.{between, later}
use Rattle.rpl_columns.specs.Rows.{cells, separator}
use Rattle.rpl_columns.proofs.row.put_cells.Given as goal

-- what is written, and the cells that are left
abbrev pub invariant-loop-index : goal.invariant-loop-index
invariant-loop-index l =
    l.out.items ++ later (separator l.sheet.format) l.index
    (cells l.sheet (map (seen l.tree.line.now) l.tree.nodes.now) (drop l.index l.sheet.columns)) ≡ l.initial.out.items
    ++ between (separator l.sheet.format) (cells l.sheet (map (seen l.tree.line.now) l.tree.nodes.now) l.sheet.columns)

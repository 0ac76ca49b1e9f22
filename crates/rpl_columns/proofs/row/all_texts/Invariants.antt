use Rattle.std.proofs.Common.{◌≡◌, [], drop, map, None, Some, false}
use Rattle.rpl_columns.specs.Columns.{picked}
use Rattle.rpl_columns.specs.Nodes.{seen}
use Rattle.rpl_columns.specs.Rows.{onto, joined}
use Rattle.rpl_columns.proofs.row.all_texts.Given as goal

-- the cell with the texts that are left is the whole one
abbrev pub invariant-loop-node : goal.invariant-loop-node
invariant-loop-node l = (l.is_found ≡ false → l.cell.items ≡ [])
    × (onto l.joint l.is_found l.cell.items
    (picked l.column l.enclosing (map (seen l.line) (drop l.node-index l.node-items)))
    ≡ joined (Some l.joint) (picked l.column None (map (seen l.line) l.node-items)))

use Rattle.std.proofs.Common.{◌≡◌, drop, map, None}
use Rattle.rpl_columns.specs.Columns.{picked}
use Rattle.rpl_columns.specs.Nodes.{seen}
use Rattle.rpl_columns.proofs.row.first_text.Given as goal

-- the column takes no node so far
abbrev pub invariant-loop-node : goal.invariant-loop-node
invariant-loop-node l = picked l.column l.enclosing (map (seen l.line) (drop l.node-index l.node-items))
    ≡ picked l.column None (map (seen l.line) l.node-items)

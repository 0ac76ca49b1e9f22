use Rattle.std.proofs.Common.{◌≡◌, ◌+◌, ◌≤◌, drop, length, map}
use Rattle.rpl_columns.specs.Fields.{values}
use Rattle.rpl_columns.specs.Nodes.{seen}
use Rattle.rpl_columns.proofs.fields.count_values.Given as goal

-- the nodes that were counted, and those that are left
abbrev pub invariant-loop-node : goal.invariant-loop-node
invariant-loop-node l =
    (l.count ≤ l.node-index)
    × (l.count + length (values l.key (map (seen l.line) (drop l.node-index l.nodes)))
    ≡ length (values l.key (map (seen l.line) l.nodes)))

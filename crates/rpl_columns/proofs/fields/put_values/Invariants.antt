use Rattle.std.proofs.Common.{◌≡◌, ◌++◌, ◌≤◌, drop, map}
use Rattle.rpl_columns.specs.Cells.{later}
use Rattle.rpl_columns.specs.Fields.{in_quotes, values, values_text}
use Rattle.rpl_columns.specs.Nodes.{seen}
use Rattle.rpl_columns.proofs.fields.put_values.Given as goal

-- what is written, and the texts that are left
abbrev pub invariant-loop-node : goal.invariant-loop-node
invariant-loop-node l =
    (l.count ≤ l.node-index)
    × (l.out.items ++ later 44 l.count (map in_quotes (values l.key (map (seen l.line) (drop l.node-index l.nodes))))
    ≡ l.initial.out.items ++ values_text (values l.key (map (seen l.line) l.nodes)))

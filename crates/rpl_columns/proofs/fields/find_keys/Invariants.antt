use Rattle.std.proofs.Common.{◌≡◌, [], drop, map}
use Rattle.rpl_columns.specs.Fields.{key_of, keys}
use Rattle.rpl_columns.specs.Nodes.{seen}
use Rattle.rpl_columns.proofs.fields.find_keys.Given as goal

-- the names that are known, and the nodes that are left
abbrev pub invariant-loop-node : goal.invariant-loop-node
invariant-loop-node l = keys (map (key_of l.line) l.keys.items) (map (seen l.line) (drop l.node-index l.nodes))
    ≡ keys [] (map (seen l.line) l.nodes)

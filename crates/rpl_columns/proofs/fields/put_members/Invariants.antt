use Rattle.std.proofs.Common.{◌≡◌, ◌++◌, drop, map}
use Rattle.rpl_columns.specs.Cells.{between, later}
use Rattle.rpl_columns.specs.Fields.{field, key_of}
use Rattle.rpl_columns.specs.Nodes.{seen}
use Rattle.rpl_columns.proofs.fields.put_members.Given as goal

-- what is written, and the fields that are left
abbrev pub invariant-loop-index : goal.invariant-loop-index
invariant-loop-index l =
    l.out.items ++ later 44 l.index
    (map (field (map (seen l.line) l.nodes)) (map (key_of l.line) (drop l.index l.keys)))
    ≡ l.initial.out.items ++ between 44 (map (field (map (seen l.line) l.nodes)) (map (key_of l.line) l.keys))

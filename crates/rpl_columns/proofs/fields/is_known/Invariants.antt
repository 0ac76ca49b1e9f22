use Rattle.std.proofs.Common.{◌≡◌, drop, map}
use Rattle.std.specs.Prelude.{◌||◌}
use Rattle.rpl_columns.specs.Fields.{is_known, key_of}
use Rattle.rpl_columns.proofs.fields.is_known.Given as goal

-- what was found so far, and the nodes that are left
abbrev pub invariant-loop-node : goal.invariant-loop-node
invariant-loop-node l = (l.is_any || is_known l.key (map (key_of l.line) (drop l.node-index l.known)))
    ≡ is_known l.key (map (key_of l.line) l.known)

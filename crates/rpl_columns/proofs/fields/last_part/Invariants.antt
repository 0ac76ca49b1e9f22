use Rattle.std.proofs.Common.{◌≡◌, ◌≤◌, drop}
use Rattle.rpl_columns.specs.Fields.{last_part, part_by}
use Rattle.rpl_columns.proofs.fields.last_part.Given as goal

-- what was found so far, and the bytes that are left
abbrev pub invariant-loop-index : goal.invariant-loop-index
invariant-loop-index l =
    (l.start ≤ l.index) × (part_by (drop l.start l.label) (drop l.index l.label) ≡ last_part l.label)

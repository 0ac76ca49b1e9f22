use Rattle.std.proofs.Common.{◌≡◌, drop}
use Rattle.std.specs.List.{list_any}
use Rattle.rpl_unittest.specs.inside.Nodes.{has_part}
use Rattle.rpl_unittest.proofs.verdict.has_type.Given as goal

abbrev pub invariant-loop-index : goal.invariant-loop-index
invariant-loop-index l =
    list_any (has_part l.program l.asked.prefix.now l.asked.part.now) (drop l.index l.forest)
    ≡ list_any (has_part l.program l.asked.prefix.now l.asked.part.now) (drop 1 l.forest)

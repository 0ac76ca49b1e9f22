use Rattle.std.proofs.Common.{◌≡◌, ◌+◌, ◌++◌, ◌≤◌, drop, true}
use Rattle.std.specs.Prelude.{min, option_map}
use Rattle.rpl_classes.specs.Norm.{norm}
use Rattle.rpl_core.specs.Head as H
use Rattle.rpl_core.specs.View.{cores}
use Rattle.rpl_codegen.specs.inside.Nodes.{choice_nodes, parts_nodes}
use Rattle.rpl_codegen.specs.inside.Sizes.{len_all, len_first}
use Rattle.rpl_codegen.proofs.size.+measure.Given as goal

abbrev pub invariant-measure_all-loop-number : goal.invariant-measure_all-loop-number
invariant-measure_all-loop-number l =
    (l.total ≤ 1048577)
    × (min 1048577 (l.total + len_all (cores (drop l.number l.parts))) ≡ min 1048577 (len_all (cores l.parts)))
    × (l.measured.nodes.items ++ parts_nodes l.number (cores (drop l.number l.parts)) ≡ l.fn.measured.nodes.items
    ++ parts_nodes 0 (cores l.parts))

abbrev pub invariant-measure_first-loop-number : goal.invariant-measure_first-loop-number
invariant-measure_first-loop-number l =
    (l.total ≤ 1048577)
    × (min 1048577 (l.total + len_first (cores (drop l.number l.parts))) ≡ min 1048577 (len_first (cores l.parts)))
    × (l.measured.nodes.items ++ choice_nodes (cores (drop l.number l.parts)) ≡ l.fn.measured.nodes.items
    ++ choice_nodes (cores l.parts))
    × (l.wanted ≡ true → option_map norm (H.both_heads l.heads (H.all_heads (cores (drop l.number l.parts))))
    ≡ option_map norm (H.all_heads (cores l.parts)))

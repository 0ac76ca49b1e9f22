use Rattle.std.proofs.Common.{◌≡◌, drop}
use Rattle.std.specs.Prelude.{◌||◌}
use Rattle.rpl_core.specs.View.{cores}
use Rattle.rpl_compile_laws.specs.Static.{all_may_be_empty, any_may_be_empty}
use Rattle.rpl_facts.specs.Facts.{front_calls_here, any_calls_here}
use Rattle.rpl_core.specs.Marks.{marked}
use Rattle.rpl_check.specs.inside.Search.{Finds}
use Rattle.rpl_check.specs.declared.recursion.BlockSearch.{BlockSearch}
use Rattle.rpl_check.proofs.recursion.+find.Given as goal

abbrev pub invariant-find_front_calls-loop-part : goal.invariant-find_front_calls-loop-part
invariant-find_front_calls-loop-part l =
    (all_may_be_empty (marked l.empties) (cores l.parts)
    ≡ all_may_be_empty (marked l.empties) (cores (drop l.part-index l.parts)))
    × ((x : BlockSearch) → Finds (front_calls_here (marked l.empties) (cores (drop l.part-index l.parts))) l.search x
    → Finds (front_calls_here (marked l.empties) (cores l.parts)) l.fn.search x)

abbrev pub invariant-find_all_calls-loop-part : goal.invariant-find_all_calls-loop-part
invariant-find_all_calls-loop-part l =
    (any_may_be_empty (marked l.empties) (cores l.parts)
    ≡ (l.any || any_may_be_empty (marked l.empties) (cores (drop l.part-index l.parts))))
    × ((x : BlockSearch) → Finds (any_calls_here (marked l.empties) (cores (drop l.part-index l.parts))) l.search x
    → Finds (any_calls_here (marked l.empties) (cores l.parts)) l.fn.search x)

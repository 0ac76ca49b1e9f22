use Rattle.std.proofs.Common.{◌≡◌, ℕ, List, drop}
use Rattle.std.specs.Prelude.{◌||◌}
use Rattle.rpl_core.specs.View.{cores}
use Rattle.rpl_compile_laws.specs.Static.{all_may_be_empty, any_may_be_empty}
use Rattle.rpl_facts.specs.Facts.{front_calls_here, any_calls_here}
use Rattle.rpl_core.specs.Marks.{marked}
use Rattle.rpl_check.specs.inside.Search.{Lists}
use Rattle.rpl_check.proofs.recursion.+list.Given as goal

abbrev pub invariant-list_front_calls-loop-part : goal.invariant-list_front_calls-loop-part
invariant-list_front_calls-loop-part l =
    (all_may_be_empty (marked l.empties) (cores l.parts)
    ≡ all_may_be_empty (marked l.empties) (cores (drop l.part-index l.parts)))
    × ((x : List ℕ) → Lists (front_calls_here (marked l.empties) (cores (drop l.part-index l.parts))) l.list.items x
    → Lists (front_calls_here (marked l.empties) (cores l.parts)) l.fn.list.items x)

abbrev pub invariant-list_all_calls-loop-part : goal.invariant-list_all_calls-loop-part
invariant-list_all_calls-loop-part l =
    (any_may_be_empty (marked l.empties) (cores l.parts)
    ≡ (l.any || any_may_be_empty (marked l.empties) (cores (drop l.part-index l.parts))))
    × ((x : List ℕ) → Lists (any_calls_here (marked l.empties) (cores (drop l.part-index l.parts))) l.list.items x
    → Lists (any_calls_here (marked l.empties) (cores l.parts)) l.fn.list.items x)

use Rattle.std.proofs.Common.{◌≡◌, drop}
use Rattle.std.specs.Prelude.{◌||◌}
use Rattle.rpl_core.specs.View.{cores}
use Rattle.rpl_compile_laws.specs.Static.{all_may_be_empty, any_may_be_empty}
use Rattle.rpl_core.specs.Marks.{marked}
use Rattle.rpl_check.specs.inside.Search.{marked_from}
use Rattle.rpl_check.specs.inside.Search.{each_calls_within, front_calls_within, within_or_none}
use Rattle.rpl_check.proofs.recursion.+front.Given as goal

abbrev pub invariant-clean_front_in_turn-loop-part : goal.invariant-clean_front_in_turn-loop-part
invariant-clean_front_in_turn-loop-part l =
    let m = marked l.empties in
    let w = marked_from l.start l.clean in
    within_or_none (front_calls_within m w (cores l.parts)) (all_may_be_empty m (cores l.parts))
    ≡ within_or_none (front_calls_within m w (cores (drop l.part-index l.parts)))
    (all_may_be_empty m (cores (drop l.part-index l.parts)))

abbrev pub invariant-clean_front_of_each-loop-part : goal.invariant-clean_front_of_each-loop-part
invariant-clean_front_of_each-loop-part l =
    let m = marked l.empties in
    let w = marked_from l.start l.clean in
    within_or_none (each_calls_within m w (cores l.parts)) (any_may_be_empty m (cores l.parts))
    ≡ within_or_none (each_calls_within m w (cores (drop l.part-index l.parts)))
    (l.any || any_may_be_empty m (cores (drop l.part-index l.parts)))

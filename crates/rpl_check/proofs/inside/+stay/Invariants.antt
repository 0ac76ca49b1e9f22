use Rattle.std.proofs.Common.{◌≡◌, drop}
use Rattle.rpl_compile_laws.specs.Static.{all_predicates_stay}
use Rattle.rpl_core.specs.View.{cores}
use Rattle.rpl_core.specs.Marks.{marked}
use Rattle.rpl_check.proofs.inside.+stay.Given as goal

abbrev pub invariant-all_predicates_stay-loop-part : goal.invariant-all_predicates_stay-loop-part
invariant-all_predicates_stay-loop-part l =
    all_predicates_stay (marked l.halting) (cores l.parts)
    ≡ all_predicates_stay (marked l.halting) (cores (drop l.part-index l.parts))

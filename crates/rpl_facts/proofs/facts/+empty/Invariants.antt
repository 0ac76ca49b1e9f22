use Rattle.std.proofs.Common.{◌≡◌, drop}
use Rattle.rpl_compile_laws.specs.Static.{all_may_be_empty, any_may_be_empty}
use Rattle.rpl_core.specs.View.{cores}
use Rattle.rpl_core.specs.Marks.{marked}
use Rattle.rpl_facts.proofs.facts.+empty.Given as goal

abbrev pub invariant-all_may_be_empty-loop-part : goal.invariant-all_may_be_empty-loop-part
invariant-all_may_be_empty-loop-part l =
    all_may_be_empty (marked l.empties) (cores l.parts)
    ≡ all_may_be_empty (marked l.empties) (cores (drop l.part-index l.parts))

abbrev pub invariant-any_may_be_empty-loop-part : goal.invariant-any_may_be_empty-loop-part
invariant-any_may_be_empty-loop-part l =
    any_may_be_empty (marked l.empties) (cores l.parts)
    ≡ any_may_be_empty (marked l.empties) (cores (drop l.part-index l.parts))

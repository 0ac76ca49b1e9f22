use Rattle.std.proofs.Common.{◌≡◌, drop}
use Rattle.rpl_compile_laws.specs.Static.{any_may_halt}
use Rattle.rpl_core.specs.View.{cores}
use Rattle.rpl_core.specs.Marks.{marked}
use Rattle.rpl_facts.proofs.facts.+halt.Given as goal

abbrev pub invariant-any_may_halt-loop-part : goal.invariant-any_may_halt-loop-part
invariant-any_may_halt-loop-part l =
    any_may_halt (marked l.halting) (cores l.parts)
    ≡ any_may_halt (marked l.halting) (cores (drop l.part-index l.parts))

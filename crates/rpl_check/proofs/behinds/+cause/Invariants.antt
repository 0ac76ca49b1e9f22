use Rattle.std.proofs.Common.{◌≡◌, drop}
use Rattle.rpl_check.specs.Causes.{first_cause_in}
use Rattle.rpl_core.specs.View.{cores}
use Rattle.rpl_check.proofs.behinds.+cause.Given as goal

abbrev pub invariant-first_cause_in-loop-part : goal.invariant-first_cause_in-loop-part
invariant-first_cause_in-loop-part l =
    first_cause_in (cores l.parts) ≡ first_cause_in (cores (drop l.part-index l.parts))

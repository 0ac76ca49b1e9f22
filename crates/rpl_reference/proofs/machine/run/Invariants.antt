use Rattle.std.proofs.Common.{◌≡◌, ◌-◌, ◌≤◌}
use Rattle.rpl_core.specs.Run as R
use Rattle.rpl_core.specs.Program.{instructions}
use Rattle.rpl_reference.specs.inside.States.{state_of, later}
use Rattle.rpl_reference.proofs.machine.run.Given as goal

abbrev pub decreases-steps : goal.decreases-steps
decreases-steps l = l.budget - l.steps

abbrev pub invariant-steps : goal.invariant-steps
invariant-steps l =
    (l.steps ≤ l.budget)
    × (R.run (instructions l.program) l.text l.budget
    ≡ later l.steps (R.run_from (instructions l.program) l.text (l.budget - l.steps) (state_of l.machine)))

use Rattle.std.proofs.Common.{◌≡◌, ◌<◌, sym, ◌∙◌, arith}
use Rattle.std.specs.Prelude.{false}
use Rattle.rpl_core.specs.Machine.{is_over}
use Rattle.rpl_core.specs.Program.{instructions}
use Rattle.rpl_reference.specs.inside.States.{state_of}
use Rattle.rpl_reference.proofs.Later.{step_later}
use Rattle.rpl_reference.proofs.machine.run.Goals as goal

pub steps-preserved : goal.steps-preserved
steps-preserved c =
    let goes : is_over (state_of c.steps.machine) ≡ false = sym c.is_over.ensures ∙ c.steps-test.true in
    let le = c.steps.invariant.0 in
    let within : c.steps.steps < c.args.budget = let ne = c.if-steps-budget.false in omega arith in (
      omega arith,
      step_later (instructions c.args.program.now) c.args.text.now c.args.budget c.steps.steps
          (state_of c.steps.machine) (state_of c.step.new.self) _ goes within c.in_ok-step.ensures c.steps.invariant.1,
    )

use Rattle.std.proofs.Common.{◌≡◌, ◌∙◌, ap}
use Rattle.rosie_cli.specs.Planned.{test_plan}
use Rattle.rosie_cli.proofs.Made.{due_plans, leaves_through, plans_through}
use Rattle.rosie_cli.proofs.Tested.{tests_tell}
use Rattle.rosie_cli.proofs.test_plan.plan_tests.Goals as goal

pub returns-clause-plans : goal.returns-clause-plans
returns-clause-plans g c = λ p told is.
    let t =
    tests_tell g.F.Source.tells _ c.args.folders.now c.args.file c.args.budget p.asked is.suite is.comes told in (
      is.tries ∙ ap test_plan (c.in_ok-suite.ensures.prepares t p.asked is.suite is.comes),
      c.in_ok-suite.ensures.asked t p.asked is.suite is.comes,
    )

pub returns-in_err-suite-clause-plans : goal.returns-in_err-suite-clause-plans
returns-in_err-suite-clause-plans g c = λ p told is.
    let t = tests_tell g.F.Source.tells _ c.args.folders.now c.args.file c.args.budget p.asked is.suite is.comes told in
    let u = c.in_err-suite.field-0.0 in
    let e = c.in_err-suite.ensures in
    plans_through _ _ c.from_residual.result u p c.from_residual.ensures.1
    (due_plans _ _ u p (λ r plan. plan ≡ test_plan r) is.suite (λ line plan x. x)
    (e.prepares t p.asked is.suite is.comes) (e.asked t p.asked is.suite is.comes) is.tries)

pub returns-in_err-suite-clause-leaves : goal.returns-in_err-suite-clause-leaves
returns-in_err-suite-clause-leaves g c =
    let e = c.in_err-suite.ensures in
    leaves_through g.F.Source c.from_residual.result _ _ e.taken e.tree c.in_err-suite.field-0.0
    c.from_residual.ensures.1 e.cause

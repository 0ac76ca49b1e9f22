use Rattle.std.proofs.Common.{subst}
use Rattle.rosie_cli.specs.Planned.{IsRun}
use Rattle.rosie_cli.specs.inside.Planning.{run_of}
use Rattle.rosie_cli.proofs.Made.{due_plans, leaves_own, leaves_through, made_plans, plans_through}
use Rattle.rosie_cli.proofs.goal_plan.plan_goal.Goals as goal

pub returns-clause-plans : goal.returns-clause-plans
returns-clause-plans g c = λ p t is.
    let due = c.in_ok-ready.ensures.prepares p.asked t is.ready is.prepares in
    made_plans _ _ c.in_ok-ready.ready c.plan_ready.result p c.plan_ready.ensures.own
    (c.in_ok-ready.ensures.asked p.asked t is.ready is.prepares)
    (c.plan_ready.ensures.makes p.plan (subst (λ r. IsRun (run_of c.args.purpose) r p.plan) due is.runs))

pub returns-clause-leaves : goal.returns-clause-leaves
returns-clause-leaves g c =
    let before = c.in_ok-ready.ensures in
    leaves_own g.F.Source c.plan_ready.result _ _ before.taken before.tree before.cause
    c.plan_ready.ensures.own

pub returns-in_err-ready-clause-plans : goal.returns-in_err-ready-clause-plans
returns-in_err-ready-clause-plans g c = λ p t is.
    let u = c.in_err-ready.field-0.0 in
    let e = c.in_err-ready.ensures in
    plans_through _ _ c.from_residual.result u p c.from_residual.ensures.1
    (due_plans _ _ u p (IsRun (run_of c.args.purpose)) is.ready (λ line plan x. x)
    (e.prepares p.asked t is.ready is.prepares) (e.asked p.asked t is.ready is.prepares) is.runs)

pub returns-in_err-ready-clause-leaves : goal.returns-in_err-ready-clause-leaves
returns-in_err-ready-clause-leaves g c =
    let e = c.in_err-ready.ensures in
    leaves_through g.F.Source c.from_residual.result _ _ e.taken e.tree c.in_err-ready.field-0.0
    c.from_residual.ensures.1 e.cause

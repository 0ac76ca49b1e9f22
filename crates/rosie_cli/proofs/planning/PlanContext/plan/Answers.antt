use Rattle.std.proofs.Common.{subst, sym}
use Rattle.rosie_cli.specs.Planned.{IsRunning}
use Rattle.rosie_cli.specs.inside.Planning.{run_of}
use Rattle.rosie_cli.proofs.planning.PlanContext.plan.Goals as goal

pub returns-clause-plans : goal.returns-clause-plans
returns-clause-plans g c = λ p t is.
    c.plan_goal.ensures.plans p t
    (subst (λ w. IsRunning (run_of c.args.purpose) w (g.F.Source.tree c.args.files.now) p) (sym c.request.ensures) is)

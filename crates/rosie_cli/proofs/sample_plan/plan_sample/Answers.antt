use Rattle.std.proofs.Common.{subst, sym}
use Rattle.rosie_prepare.specs.Prepared.{IsPrepared}
use Rattle.rosie_cli.proofs.Made.{memory_first}
use Rattle.rosie_cli.proofs.Sampled.{request_sample}
use Rattle.rosie_cli.proofs.sample_plan.plan_sample.Goals as goal

pub returns-clause-plans : goal.returns-clause-plans
returns-clause-plans g c = λ p t is.
    let tree = g.F.Source.tree c.args.files.now in
    c.plan_goal.ensures.plans p t (record {
      ready = is.ready;
      prepares =
          subst (λ w. IsPrepared tree w p.asked is.ready) (sym c.request_for-request.ensures)
          (request_sample c.in_ok-roots.roots c.args.folders.now c.sample_pattern.result.now tree p.asked is.ready
          c.in_ok-roots.ensures c.sample_pattern.ensures is.prepares);
      runs = is.runs;
    })

pub returns-in_err-roots-clause-plans : goal.returns-in_err-roots-clause-plans
returns-in_err-roots-clause-plans g c = λ p t is.
    memory_first _ c.from_residual.result p c.from_residual.ensures.1

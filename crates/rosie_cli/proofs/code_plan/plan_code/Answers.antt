use Rattle.std.proofs.Common.{◌∙◌, subst, sym}
use Rattle.std.specs.Prelude.{Ok, encode_utf8_all}
use Rattle.rosie_run.specs.Inputs.{names_of}
use Rattle.rosie_run.specs.Unready.{HasAsked}
use Rattle.rpl_core.specs.Program.{instructions}
use Rattle.rosie_jobs.specs.Jobs.{matcher_of}
use Rattle.rosie_jobs.specs.Makers.{RunsCode}
use Rattle.rosie_cli.specs.Planned.{input_names}
use Rattle.rosie_cli.proofs.Coded.{code_plans, unready_plans}
use Rattle.rosie_cli.proofs.Limits.{reads_same}
use Rattle.rosie_cli.proofs.Made.{asks_some, leaves_through, memory_after, memory_first, plans_through}
use Rattle.rosie_cli.proofs.code_plan.plan_code.Goals as goal

pub returns-clause-plans : goal.returns-clause-plans
returns-clause-plans g c = λ p told is.
    let s = c.args.settings in
    let tells = asks_some g.F.Source.tells p.asked _ _ is.asks told in
    let code = instructions c.in_ok-program.program in
    let names = input_names c.args.inputs in (
      code_plans s (encode_utf8_all c.args.path) names (g.F.Source.tree c.args.files.now) p (Ok code) is
          (c.in_ok-program.ensures.loads tells)
          ∙ reads_same (RunsCode s code) (matcher_of c.in_ok-job.job) s.whole names
          (names_of encode_utf8_all c.in_ok-names.names)
          c.in_ok-job.ensures c.in_ok-names.ensures,
      subst (HasAsked _ _ (Ok c.in_ok-program.program)) (sym is.asks) c.in_ok-program.ensures.asked,
    )

pub returns-in_err-program-clause-plans : goal.returns-in_err-program-clause-plans
returns-in_err-program-clause-plans g c = λ p told is.
    let u = c.in_err-program.field-0.0 in
    let e = c.in_err-program.ensures in
    plans_through _ _ c.from_residual-in_err-program.result u p c.from_residual-in_err-program.ensures.1
    (unready_plans c.args.settings (encode_utf8_all c.args.path) (input_names c.args.inputs)
    (g.F.Source.tree c.args.files.now) p _ _ u is
    (e.loads (asks_some g.F.Source.tells p.asked _ _ is.asks told)) e.asked)

pub returns-in_err-program-clause-leaves : goal.returns-in_err-program-clause-leaves
returns-in_err-program-clause-leaves g c =
    let e = c.in_err-program.ensures in
    leaves_through g.F.Source c.from_residual-in_err-program.result _ _ e.taken e.tree c.in_err-program.field-0.0
    c.from_residual-in_err-program.ensures.1 e.cause

pub returns-in_err-names-clause-plans : goal.returns-in_err-names-clause-plans
returns-in_err-names-clause-plans g c = λ p told is.
    memory_first _ c.from_residual.result p c.from_residual.ensures.1

pub returns-in_err-job-clause-plans : goal.returns-in_err-job-clause-plans
returns-in_err-job-clause-plans g c = λ p told is.
    memory_after _ _ c.in_ok-program.program c.from_residual-in_err-job.result p
    c.from_residual-in_err-job.ensures.1
    (subst (HasAsked _ _ (Ok c.in_ok-program.program)) (sym is.asks) c.in_ok-program.ensures.asked)

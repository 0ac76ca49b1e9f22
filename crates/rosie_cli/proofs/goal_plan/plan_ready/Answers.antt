use Rattle.std.proofs.Common.{◌∙◌, sym}
use Rattle.rosie_jobs.specs.Jobs.{job_of}
use Rattle.rosie_prepare.specs.Views.{ready_seen}
use Rattle.rosie_prepare.proofs.Passing.{bodies_rows_of, told_own}
use Rattle.rpl_core.specs.Table.{bodies_of}
use Rattle.rosie_cli.specs.inside.Planning.{due_of, run_of}
use Rattle.rosie_cli.proofs.Limits.{job_plans, long_plans, names_rows_of}
use Rattle.rosie_cli.proofs.Made.{told_made}
use Rattle.rosie_cli.proofs.goal_plan.plan_ready.Goals as goal

pub returns-in_ok-plan_job-in-Ok-clause-makes : goal.returns-in_ok-plan_job-in-Ok-clause-makes
returns-in_ok-plan_job-in-Ok-clause-makes c = λ p is.
    let ready = c.args.ready in
    let seen = ready_seen ready in
    job_plans (run_of c.args.purpose) seen (bodies_of ready.rules) (bodies_rows_of ready.rules) p is
    (job_of c.in-Ok.job) c.in-Ok.ensures.job
    ∙ c.in_ok-plan_job-in-Ok.ensures.made seen.rules (names_rows_of ready.rules ∙ sym c.in-Ok.ensures.names)

pub returns-in-Err-clause-makes : goal.returns-in-Err-clause-makes
returns-in-Err-clause-makes c = λ p is.
    let ready = c.args.ready in
    told_made c.in-Err.fault c.uncompiled.result p c.uncompiled.ensures (λ long.
    long_plans (run_of c.args.purpose) (ready_seen ready) (bodies_of ready.rules) (bodies_rows_of ready.rules) p is
    (c.in-Err.ensures.too_long long))

pub returns-in-Err-clause-own : goal.returns-in-Err-clause-own
returns-in-Err-clause-own c = told_own (due_of c.in-Err.fault) c.uncompiled.result c.uncompiled.ensures

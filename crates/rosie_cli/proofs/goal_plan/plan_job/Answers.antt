use Rattle.std.proofs.Common.{◌∙◌, ap, sym}
use Rattle.std.specs.Prelude.{encode_utf8_all}
use Rattle.rosie_jobs.specs.Jobs.{job_of, matcher_of, rule_names}
use Rattle.rosie_jobs.specs.Makers.{Matches, Traces}
use Rattle.rosie_run.specs.Inputs.{names_of}
use Rattle.rosie_cli.specs.Planned.{input_names}
use Rattle.rpl_forms.specs.Table.{full_names}
use Rattle.rosie_cli.specs.Plans.{Samples}
use Rattle.rosie_cli.proofs.Limits.{reads_same}
use Rattle.rosie_cli.proofs.goal_plan.plan_job.Goals as goal

pub returns-in_ok-job-in-Match-clause-made : goal.returns-in_ok-job-in-Match-clause-made
returns-in_ok-job-in-Match-clause-made c = λ rules named.
    let m = c.in-Match in
    rw m.is
    (reads_same (Matches m.settings (job_of c.args.job)) (matcher_of c.in_ok-job-in-Match.job) m.settings.whole
    (input_names m.inputs) (names_of encode_utf8_all c.in_ok-names-in-Match.names) c.in_ok-job-in-Match.ensures.maker
    c.in_ok-names-in-Match.ensures)

pub returns-in_ok-names-in-Trace-clause-made : goal.returns-in_ok-names-in-Trace-clause-made
returns-in_ok-names-in-Trace-clause-made c = λ rules named.
    let m = c.in-Trace in
    let job = job_of c.args.job in
    rw m.is
    (reads_same (Traces m.limit (full_names rules) job) (Traces m.limit (rule_names c.args.job) job) m.whole
    (input_names m.inputs) (names_of encode_utf8_all c.in_ok-names-in-Trace.names)
    (ap (λ x. Traces m.limit x job) (sym named)) c.in_ok-names-in-Trace.ensures)

pub returns-in_ok-job-in-Sample-clause-made : goal.returns-in_ok-job-in-Sample-clause-made
returns-in_ok-job-in-Sample-clause-made c = λ rules named.
    let m = c.in-Sample in
    rw m.is
    (ap (λ x. Samples (record { maker = x; seed = m.seed; lines = m.lines })) (sym c.in_ok-job-in-Sample.ensures.maker)
    ∙ ap Samples (sym c.new-run.ensures.sampled))

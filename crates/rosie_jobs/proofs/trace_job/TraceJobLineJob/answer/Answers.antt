use Rattle.std.proofs.Common.{◌∙◌}
use Rattle.rosie_run.proofs.Parted.{whole_is}
use Rattle.rpl_trace.specs.Left.{left_of}
use Rattle.rosie_jobs.specs.Jobs.{job_of, rule_names}
use Rattle.rosie_jobs.specs.Tracing.{part_of, rest_of}
use Rattle.rosie_jobs.proofs.TraceParts.{none_whole}
use Rattle.rosie_jobs.proofs.Traced.{told_line, over_line, no_steps}
use Rattle.rosie_jobs.proofs.trace_job.TraceJobLineJob.answer.Goals as goal

pub returns-in_ok-begin-in-Ok-clause-made : goal.returns-in_ok-begin-in-Ok-clause-made
returns-in_ok-begin-in-Ok-clause-made g c =
    let w = c.args.self.now in
    let is = c.in-Ok.ensures in
    let out = c.begin.new.self in
    told_line w.limit (rule_names w.job.now) (job_of w.job.now) _ c.args.line.file.now c.args.line.number
    c.args.line.text.now c.in-Ok.traced.end (left_of c.in-Ok.traced.text) c.mark_of.result _ _
    c.new-text.ensures (record { within = is.within; ends = is.end; bytes = is.printed }) c.mark_of.ensures
    (whole_is (part_of out) (rest_of out) ∙ c.in_ok-begin-in-Ok.ensures) c.clear.ensures.bytes

pub returns-in_ok-self-in-TraceTooLong-clause-made : goal.returns-in_ok-self-in-TraceTooLong-clause-made
returns-in_ok-self-in-TraceTooLong-clause-made g c =
    let w = c.args.self.now in
    let out = c.clear-in-TraceTooLong.new.self in
    over_line w.limit (rule_names w.job.now) (job_of w.job.now) _ c.args.line.file.now c.args.line.number
    c.args.line.text.now _ _ c.new-text.ensures (c.in-Err.ensures.refused c.in-TraceTooLong.is)
    (none_whole out c.clear-in-TraceTooLong.ensures.made c.clear-in-TraceTooLong.ensures.lines)
    c.in_ok-self-in-TraceTooLong.ensures

pub returns-in_ok-begin-in-Ok-clause-steps : goal.returns-in_ok-begin-in-Ok-clause-steps
returns-in_ok-begin-in-Ok-clause-steps g c =
    let w = c.args.self.now in
    no_steps w.limit (rule_names w.job.now) (job_of w.job.now) c.args.line.file.now c.args.line.number
    c.args.line.text.now c.args._steps.now

pub returns-in_ok-self-in-TraceTooLong-clause-steps : goal.returns-in_ok-self-in-TraceTooLong-clause-steps
returns-in_ok-self-in-TraceTooLong-clause-steps g c =
    let w = c.args.self.now in
    no_steps w.limit (rule_names w.job.now) (job_of w.job.now) c.args.line.file.now c.args.line.number
    c.args.line.text.now c.args._steps.now

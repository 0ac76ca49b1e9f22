use Rattle.std.proofs.Common.{subst}
use Rattle.rosie_jobs.specs.Jobs.{job_of}
use Rattle.rosie_jobs.specs.inside.Printed.{NeedsTrees}
use Rattle.rosie_jobs.proofs.Allowed.{job_due}
use Rattle.rosie_jobs.proofs.match_job.MatchJob.new.Goals as goal

pub invariant_of-result : goal.invariant_of-result
invariant_of-result c = record {
  known = c.args.job.meant;
  learnt = c.in_ok-runs.ensures.runner;
  captures = λ needs. c.in_ok-runs.ensures.captures
      (subst (λ s. NeedsTrees s.style) c.in_ok-line.ensures.settings needs);
  fronts = c.in_ok-line.ensures.fronts;
}

pub returns-clause-due : goal.returns-clause-due
returns-clause-due c = job_due c.in_ok-line.line.settings (job_of c.args.job) c.args.job.meant

use Rattle.std.proofs.Common.{◌∙◌, ap}
use Rattle.std.specs.Prelude.{codes}
use Rattle.rosie_jobs.specs.Jobs.{matcher_of}
use Rattle.rosie_jobs.proofs.Staying.{job_stays}
use Rattle.rosie_run.specs.Report.{is_stop}
use Rattle.rosie_session.proofs.Turns.{job_cost, job_said}
use Rattle.rosie_session.proofs.turn.try_job.Goals as goal

pub returns-clause-reply : goal.returns-clause-reply
returns-clause-reply g c = λ ran is.
    job_said c.in_ok-mark.mark _ _ c.out-text.result.now c.err-fault.result.now _ _ (matcher_of c.args.job.now) ran
    c.args.number c.args.line.now is c.in_ok-mark.ensures.made c.out-text.ensures c.err-fault.ensures
    c.in_ok-told.ensures c.in_ok-copy_of.ensures

pub returns-clause-cost : goal.returns-clause-cost
returns-clause-cost g c = λ ran is.
    job_cost (matcher_of c.args.job.now) ran c.args.number c.args.line.now _ _ is c.in_ok-mark.ensures.steps

pub invariant_of-result : goal.invariant_of-result
invariant_of-result g c =
    record {
      goes_on = ap is_stop c.in_ok-mark.ensures.made.marks
          ∙ job_stays c.args.job.now (codes "(session)") c.args.number c.args.line.now;
    }

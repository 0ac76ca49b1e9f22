use Rattle.std.proofs.lemmas.Grind.{merely}
use Rattle.rpl_compile_laws.proofs.Answering.{answer_holds}
use Rattle.rosie_jobs.proofs.job.Job.new.Goals as goal

pub invariant_of-result : goal.invariant_of-result
invariant_of-result c =
    let w = c.requires in
    record {
      meant = merely (λ t chars b. answer_holds w.stays.0 _ _ _ w.stays.1 c.in_ok-program.ensures.code t chars
          (w.shut t) b);
      total = w.shut;
    }

use Rattle.std.proofs.Common.{subst}
use Rattle.std.proofs.lemmas.Grind.{merely}
use Rattle.rpl_core.specs.Program.{instructions}
use Rattle.rosie_jobs.specs.inside.Printed.{NeedsTrees}
use Rattle.rosie_jobs.proofs.Shown.{safe_writes}
use Rattle.rosie_jobs.proofs.match_job.MatchJob.of_code.Goals as goal

pub invariant_of-result : goal.invariant_of-result
invariant_of-result c = record {
  known = merely (safe_writes (instructions c.args.program) c.requires);
  learnt = c.in_ok-runs.ensures.runner;
  captures = λ needs. c.in_ok-runs.ensures.captures
      (subst (λ s. NeedsTrees s.style) c.in_ok-line.ensures.settings needs);
  fronts = c.in_ok-line.ensures.fronts;
}

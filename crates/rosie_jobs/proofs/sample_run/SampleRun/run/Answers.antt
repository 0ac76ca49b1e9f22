use Rattle.std.proofs.Common.{refl}
use Rattle.std.specs.Prelude.{None}
use Rattle.rosie_run.proofs.Breaking.{runs_weaken}
use Rattle.rosie_run.proofs.Going.{never_cut, never_stood}
use Rattle.rosie_jobs.proofs.SampleOnward.{report_left}
use Rattle.rosie_jobs.proofs.sample_run.SampleRun.run.Goals as goal

pub returns-clause-runs : goal.returns-clause-runs
returns-clause-runs g c =
    runs_weaken _ _ _ _ _ _ _ (never_stood _)
    (c.run_pieces.ensures.runs _ (report_left (record c.args.self.now {
      passed = 0;
      matched = 0;
      bytes = 0;
      text = None;
    }) refl refl refl))

pub returns-clause-no_cut : goal.returns-clause-no_cut
returns-clause-no_cut g c = never_cut _ c.run_pieces.ensures.left

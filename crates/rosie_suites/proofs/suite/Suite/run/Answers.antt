use Rattle.rosie_run.proofs.Breaking.{runs_weaken}
use Rattle.rosie_run.proofs.Going.{never_cut, never_stood}
use Rattle.rosie_suites.proofs.Passing.{comes_begun}
use Rattle.rosie_suites.proofs.suite.Suite.run.Goals as goal

pub returns-clause-runs : goal.returns-clause-runs
returns-clause-runs g c =
    let e = c.in_ok-suite_run.ensures in
    runs_weaken _ c.run_pieces.result _ _ _ _ _ (never_stood _)
    (c.run_pieces.ensures.runs _ (comes_begun c.in_ok-suite_run.suite_run c.args.self.now e.suite e.passed e.opened))

pub returns-clause-no_cut : goal.returns-clause-no_cut
returns-clause-no_cut g c = never_cut _ c.run_pieces.ensures.left

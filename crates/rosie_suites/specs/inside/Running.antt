-- How far the run of a suite has come.
use Rattle.std.specs.Prelude.{◌≡◌, ◌+◌, ◌++◌, ◌∷◌, ◌≤◌, ℕ, Bool, true, false, List, [], drop, length, map}
use Rattle.rosie_run.specs.Report.{Piece}
use Rattle.rpl_core.specs.Table.{bodies_of}
use Rattle.rosie_suites.specs.Seen.{bench_of, trials_of}
use Rattle.rosie_suites.specs.Trials.{Trial, counts_piece, trial_piece, unmet}
use Rattle.rosie_suites.specs.Tried.{trial_of}
use Rattle.rosie_suites.specs.declared.run.SuiteRun.{SuiteRun}
use Rattle.rosie_suites.specs.declared.suite.Suite.{Suite}
use Rattle.rosie_suites.specs.inside.Entries.{AreSound}

-- the tests from the one with a number on
abbrev pub trials_from : Suite → ℕ → List Trial
trials_from s i = map (trial_of (bodies_of s.rules)) (drop i s.trials.items)

-- the piece of the counts, and the pieces from the test with a number on
abbrev pub last_piece : Suite → Piece
last_piece s = counts_piece (bench_of s).file (length (trials_of s)) (unmet (bench_of s) (trials_of s))

abbrev pub pieces_from : Suite → ℕ → List Piece
pieces_from s i = map (trial_piece (bench_of s)) (trials_from s i) ++ last_piece s ∷ []

-- the counts are those of the tests so far, and what is kept is sound
pub record IsUnderWay (r : SuiteRun) : Type 0 where
  pub within : r.passed ≤ length r.suite.now.trials.items
  pub few : r.unmet ≤ r.passed
  pub counted : r.unmet + unmet (bench_of r.suite.now) (trials_from r.suite.now r.passed)
      ≡ unmet (bench_of r.suite.now) (trials_of r.suite.now)
  pub sound : AreSound (bodies_of r.suite.now.rules) r.kept.subjects.entries.items

-- the pieces to come
abbrev pub ComesBy : Bool → SuiteRun → List Piece → Type 0
ComesBy false r ps = ps ≡ pieces_from r.suite.now r.passed
ComesBy true r ps = ps ≡ []

abbrev pub one_left : Bool → ℕ
one_left false = 1
one_left true = 0

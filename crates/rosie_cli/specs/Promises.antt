-- What is promised for a plan: what its goals mean, when a budget may be exceeded, and that written code is safe.
use Rattle.std.specs.Prelude.{ℕ, ◌≡◌, ◌≢◌, false, List, Ok}
use Rattle.std.specs.List.{All}
use Rattle.rpl_codefile.specs.Spelling.{Spells}
use Rattle.rpl_core.specs.Forest.{Forest, NoTree, Tree}
use Rattle.rpl_core.specs.Instr.{Instr}
use Rattle.rpl_core.specs.Meaning.{At, Fail, Open}
use Rattle.rpl_core.specs.Outcome.{outcome}
use Rattle.rpl_safe.specs.Safe.{IsSafe}
use Rattle.rosie_jobs.specs.Budgets.{Pays}
use Rattle.rosie_jobs.specs.Lines.{Job, matches}
use Rattle.rosie_jobs.specs.Makers as M
use Rattle.rosie_suites.specs.Budgets as T
use Rattle.rosie_suites.specs.Trials as U
use Rattle.rosie_cli.specs.Plans.{Plan, Says, Writes, Tries, RunsOnInputs, Samples, Replays}
use Rattle.rosie_session.specs.Limits as S
use Rattle.rosie_session.specs.Loading.{Loading}

-- The goal of a job means something on every text: its outcome is never open, it has failed wherever it doesn't match,
-- and a match is one tree, from the first place to the place after the match.
pub record HasMeaning (job : Job) : Type 0 where
  pub shut : (t : List ℕ) → outcome job.rules job.goal t ≢ Open
  pub failed : (t : List ℕ) → matches (outcome job.rules job.goal t) ≡ false
      → (w : ℕ) × (outcome job.rules job.goal t ≡ Fail w)
  pub one_tree : (t : List ℕ) (w j : ℕ) (f : Forest) → outcome job.rules job.goal t ≡ At w j f
      → (label : List ℕ) × (below : Forest) × (f ≡ Tree label 0 j below NoTree)

-- so does the goal that each line is matched with or traced for; the code of a file has none
abbrev pub LinesMean : M.Maker → Type 0
LinesMean (M.Matches s job) = HasMeaning job
LinesMean (M.Traces limit names job) = HasMeaning job
LinesMean (M.RunsCode s code) = Unit {0}

-- and that of a test
abbrev pub TestMeans : U.Subject → Type 0
TestMeans U.Unbound = Unit {0}
TestMeans U.TooLong = Unit {0}
TestMeans (U.HasCode job) = HasMeaning job

abbrev pub TestsMean : List U.Trial → Type 0
TestsMean = All (λ t. TestMeans t.subject)

-- and that of each line that is tried, whatever is kept by then
abbrev pub TriesMean : Loading → Type 0
TriesMean w =
    (texts : List (List ℕ)) (pattern : List ℕ) (job : Job) → (w.goal texts pattern).answer ≡ Ok job → HasMeaning job

-- the bytes encode safe code
abbrev pub SpellsSafe : List ℕ → Type 0
SpellsSafe bytes = (code : List Instr) × Spells code bytes × IsSafe code

-- what is promised for a plan: a line or a test is reported to exceed its budget only if that is due, each goal means
-- something on every text, and code that is written as a file is safe
abbrev pub IsPromised : Plan → Type 0
IsPromised (Says ps) = Unit {0}
IsPromised (Writes bytes) = SpellsSafe bytes
IsPromised (Tries b trials) = T.SuitePays b trials × TestsMean trials
IsPromised (RunsOnInputs m whole names) = Pays m × LinesMean m
IsPromised (Samples r) = Pays r.maker × LinesMean r.maker
IsPromised (Replays w) = S.SessionPays w × TriesMean w

-- What holds for all jobs.
use Rattle.std.specs.Prelude.{◌≡◌, ℕ, true, List, chars, Option}
use Rattle.std.specs.Str.{is_utf8}
use Rattle.rpl_core.specs.Outcome.{outcome}
use Rattle.rpl_trace.specs.Evaluations.{Evaluations, NoneLeft, One, Ending, Unsaid, trace}
use Rattle.rpl_trace.specs.Traces.{ending_place, place_behind}
use Rattle.rosie_jobs.specs.Limits.{IsTraceable, IsWithin}
use Rattle.rosie_jobs.specs.Budgets.{PaysFor}
use Rattle.rosie_jobs.specs.Lines.{Job, code_makes, match_makes}
use Rattle.rosie_jobs.specs.Meant.{IsMeant}
use Rattle.rosie_jobs.specs.Makers.{trace_makes}
use Rattle.rosie_words.specs.declared.settings.Settings.{Settings}
use Rattle.rosie_jobs.specs.Loaded.{CodeOrLine, IsLoaded}
use Rattle.rpl_core.specs.Forest.{Forest, flat}
use Rattle.rosie_jobs.specs.Written.{written}

-- how the first evaluation ends: it is that of the goal
abbrev pub first_ending : Evaluations → Ending
first_ending NoneLeft = Unsaid
first_ending (One k i e f r) = e

-- a line counts as a match with both, or with neither, and the trace ends where the match does
pub record Agree (s : Settings) (limit : ℕ) (names : List (List ℕ)) (job : Job) (file : List ℕ) (n : ℕ) (line : List ℕ)
    : Type 0 where
  pub marks : (trace_makes limit names job file n line).mark ≡ (match_makes s job file n line).mark
  pub places : ending_place (chars line) (first_ending (trace job.rules job.goal (chars line)))
      ≡ place_behind (chars line) (outcome job.rules job.goal (chars line))

-- a trace and a match of a job, whose budget is spent only where that is due, agree on each line within both limits
abbrev pub TracesAgree : Type 0
TracesAgree =
    (s : Settings) (limit : ℕ) (names : List (List ℕ)) (job : Job) → PaysFor s job
    → (file : List ℕ) (n : ℕ) (line : List ℕ) → IsWithin s job line → IsTraceable limit job line
    → Agree s limit names job file n line

-- where a goal's code does what the goal means, the code alone makes of each line what the goal makes of it
abbrev pub RunsAsItsGoal : Type 0
RunsAsItsGoal =
    (s : Settings) (job : Job) → IsMeant job → (file : List ℕ) (n : ℕ) (line : List ℕ) → is_utf8 line ≡ true
    → match_makes s job file n line ≡ code_makes s job.code file n line

-- a file comes to a code or to a line
abbrev pub SomeLoading : Type 0
SomeLoading = (path : List ℕ) (file : Option (List ℕ)) → (r : CodeOrLine) × IsLoaded path file r

-- and to one alone
abbrev pub OneLoading : Type 0
OneLoading =
    (path : List ℕ) (file : Option (List ℕ)) (r s : CodeOrLine) → IsLoaded path file r → IsLoaded path file s → r ≡ s

-- the capture list of some trees writes them out
abbrev pub WrittenLaw : Type 0
WrittenLaw = (f : Forest) → written (flat f) ≡ f

-- What makes a piece for each line.
use Rattle.std.specs.Prelude.{ℕ, List, nat_lt, if◌then◌else◌, [], ◌++◌, codes, chars}
use Rattle.rosie_run.specs.Lines.{Makes, line_fault}
use Rattle.rpl_core.specs.Instr.{Instr}
use Rattle.rosie_jobs.specs.Lines.{Job, code_makes, match_makes, matches}
use Rattle.rosie_words.specs.declared.settings.Settings.{Settings}
use Rattle.std.specs.Fmt.{decimal}
use Rattle.rosie_run.specs.Report.{stop_piece}
use Rattle.rosie_run.specs.declared.mark.Mark.TheVariants.{Hit, Miss}
use Rattle.rpl_core.specs.Outcome.{outcome, work_of}
use Rattle.rpl_trace.specs.Evaluations.{trace}
use Rattle.rpl_trace.specs.Printed.{printed}

-- ---- `trace`

-- the evaluations of the line with the number n, under a line that says the number; `names` are those of the rules
abbrev pub trace_text : List (List ℕ) → Job → ℕ → List ℕ → List ℕ
trace_text names job n t =
    codes "line " ++ (decimal n ++ (codes "\n" ++ printed names t 0 (trace job.rules job.goal t)))

-- they are reported of a line that takes no more work than the limit; at any other the run ends
unfoldable pub trace_makes : ℕ → List (List ℕ) → Job → Makes
trace_makes limit names job file n line =
    if nat_lt limit (work_of (outcome job.rules job.goal (chars line)))
    then stop_piece (line_fault file n (codes "trace too long"))
    else record {
      out = trace_text names job n (chars line);
      err = [];
      mark = if matches (outcome job.rules job.goal (chars line)) then Hit else Miss;
      cost = 0;
    }

-- ---- all that make a piece of each line

-- a job that matches each line, and one that traces it: `names` are those of the job's rules; and a code that runs on
-- it without a goal
pub data Maker : Type 0 where
  Matches : (settings : Settings) → (job : Job) → Maker
  Traces : (limit : ℕ) → (names : List (List ℕ)) → (job : Job) → Maker
  RunsCode : (settings : Settings) → (code : List Instr) → Maker

abbrev pub makes_of : Maker → Makes
makes_of (Matches s job) = match_makes s job
makes_of (Traces limit names job) = trace_makes limit names job
makes_of (RunsCode s code) = code_makes s code

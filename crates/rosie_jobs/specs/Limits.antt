-- Which lines every limit allows.
use Rattle.std.specs.Prelude.{ℕ, ◌≡◌, ◌+◌, ◌*◌, ◌≤◌, true, false, List, length, chars}
use Rattle.std.specs.Str.{is_utf8}
use Rattle.rpl_core.specs.Instr.{Instr}
use Rattle.rpl_core.specs.Outcome.{outcome, work_of}
use Rattle.rpl_core.specs.Run.{run}
use Rattle.rpl_encode.specs.Answer.{max_answer_bytes}
use Rattle.rpl_encode.specs.Print.{print}
use Rattle.rosie_jobs.specs.Lines.{Job, budget_of, code_outcome, is_over, max_line_bytes}
use Rattle.rosie_jobs.specs.Makers.{Maker, Matches, Traces, RunsCode}
use Rattle.rosie_words.specs.declared.settings.Settings.{Settings}

-- a line that every limit of a match allows
pub record IsWithin (s : Settings) (job : Job) (line : List ℕ) : Type 0 where
  pub short : length line ≤ max_line_bytes
  pub text : is_utf8 line ≡ true
  pub budget : 4 * work_of (outcome job.rules job.goal (chars line)) + 2 ≤ budget_of s (chars line)
  pub answer : length (print s.style (chars line) (outcome job.rules job.goal (chars line))) ≤ max_answer_bytes

-- and every limit of a trace
pub record IsTraceable (limit : ℕ) (job : Job) (line : List ℕ) : Type 0 where
  pub short : length line ≤ max_line_bytes
  pub text : is_utf8 line ≡ true
  pub work : work_of (outcome job.rules job.goal (chars line)) ≤ limit

-- and every limit of a code that has no goal: nothing but a run tells what that costs
pub record IsCodeWithin (s : Settings) (code : List Instr) (line : List ℕ) : Type 0 where
  pub short : length line ≤ max_line_bytes
  pub text : is_utf8 line ≡ true
  pub budget : is_over (run code (chars line) (budget_of s (chars line))) ≡ false
  pub answer : length (print s.style (chars line) (code_outcome s code line)) ≤ max_answer_bytes

abbrev pub IsAllowed : Maker → List ℕ → Type 0
IsAllowed (Matches s job) line = IsWithin s job line
IsAllowed (Traces limit names job) line = IsTraceable limit job line
IsAllowed (RunsCode s code) line = IsCodeWithin s code line

-- How contracts see a job, and what makes a piece for each line.
use Rattle.std.specs.Prelude.{◌≡◌, ◌≤◌, ℕ, List, Option, Some, None, length}
use Rattle.rpl_core.specs.Core.{Core}
use Rattle.rpl_core.specs.Instr.{Instr}
use Rattle.rpl_core.specs.Program.{instructions}
use Rattle.rpl_core.specs.Programs.{IsCode, max_code_length}
use Rattle.rpl_core.specs.Table.{names_of}
use Rattle.rosie_jobs.specs.Lines as L
use Rattle.rosie_jobs.specs.Makers.{Maker, Matches, Traces, RunsCode}
use Rattle.rosie_jobs.specs.Meant.{job_with}
use Rattle.rosie_jobs.specs.declared.job.CheckedGoal.{CheckedGoal}
use Rattle.rosie_jobs.specs.declared.job.Job.{Job}
use Rattle.rosie_jobs.specs.declared.match_job.MatchJob.{MatchJob}
use Rattle.rosie_words.specs.declared.settings.Settings.{Settings}
use Rattle.rosie_jobs.specs.declared.trace_job.TraceJob.{TraceJob}

abbrev pub job_of : Job → L.Job
job_of j = job_with j.goal (instructions j.program)

-- the full names of its rules
abbrev pub rule_names : Job → List (List ℕ)
rule_names j = names_of j.goal.rules

-- the job of this goal over these rules, whose code is within the limit
pub record IsJobOf (R : List Core) (g : Core) (job : L.Job) : Type 0 where
  pub rules : job.rules ≡ R
  pub goal : job.goal ≡ g
  pub code : IsCode R g job.code
  pub fits : length job.code ≤ max_code_length

-- a code matches what its goal means; one that has no goal, what it captures
abbrev pub matcher : Option CheckedGoal → Settings → List Instr → Maker
matcher (Some goal) s code = Matches s (job_with goal code)
matcher None s code = RunsCode s code

abbrev pub matcher_of : MatchJob → Maker
matcher_of j = matcher j.goal j.line.settings (instructions j.program)

abbrev pub tracer_of : TraceJob → Maker
tracer_of j = Traces j.limit (rule_names j.job.now) (job_of j.job.now)

-- What is promised for each line: when it may exceed its budget.
use Rattle.std.specs.Prelude.{ℕ, ◌≡◌, ◌+◌, ◌*◌, ◌<◌, true, List, chars}
use Rattle.std.specs.Str.{is_utf8}
use Rattle.rpl_core.specs.Outcome.{outcome, work_of}
use Rattle.rpl_core.specs.Run.{run}
use Rattle.rosie_jobs.specs.Lines.{Job, budget_of, is_over}
use Rattle.rosie_jobs.specs.Makers.{Maker, Matches, Traces, RunsCode}
use Rattle.rosie_words.specs.declared.settings.Settings.{Settings}

-- a line exceeds its budget only if two more than four times the work of its meaning is more than the budget
abbrev pub PaysFor : Settings → Job → Type 0
PaysFor s job =
    (line : List ℕ) → is_utf8 line ≡ true → is_over (run job.code (chars line) (budget_of s (chars line))) ≡ true
    → budget_of s (chars line) < 4 * work_of (outcome job.rules job.goal (chars line)) + 2

abbrev pub Pays : Maker → Type 0
Pays (Matches s job) = PaysFor s job
Pays (Traces limit names job) = Unit {0}
Pays (RunsCode s code) = Unit {0}

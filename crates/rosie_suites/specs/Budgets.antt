-- What is promised for the tests of a file: when one may exceed its budget.
use Rattle.std.specs.Prelude.{◌≡◌, ◌+◌, ◌*◌, ◌<◌, true, List}
use Rattle.std.specs.List.{All}
use Rattle.rpl_core.specs.Outcome.{outcome, work_of}
use Rattle.rpl_unittest.specs.declared.test.Test.{Test}
use Rattle.rosie_jobs.specs.Lines.{budget_or, is_over}
use Rattle.rosie_suites.specs.Trials.{Bench, Subject, HasCode, Trial, ran}

-- a test exceeds its budget only if two more than four times the work of its meaning is more than the budget
abbrev pub TestPays : Bench → Test → Subject → Type 0
TestPays b t (HasCode job) =
    is_over (ran b t job) ≡ true → budget_or b.budget t.text < 4 * work_of (outcome job.rules job.goal t.text) + 2
TestPays b t _ = Unit {0}

abbrev pub SuitePays : Bench → List Trial → Type 0
SuitePays b = All (λ t. TestPays b t.test t.subject)

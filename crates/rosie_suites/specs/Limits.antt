-- Which tests every limit allows.
use Rattle.std.specs.Prelude.{◌+◌, ◌*◌, ◌≤◌, List, length}
use Rattle.std.specs.List.{All}
use Rattle.rpl_core.specs.Outcome.{outcome, work_of}
use Rattle.rpl_encode.specs.Answer.{max_answer_bytes}
use Rattle.rpl_encode.specs.Print.{print}
use Rattle.rpl_encode.specs.declared.style.Style.TheVariants.{Json}
use Rattle.rpl_unittest.specs.declared.test.Test.{Test}
use Rattle.rosie_jobs.specs.Lines.{Job, budget_or}
use Rattle.rosie_suites.specs.Trials.{Bench, Subject, Unbound, TooLong, HasCode, Trial}

-- a goal and a text that every limit allows
pub record IsWithin (b : Bench) (t : Test) (job : Job) : Type 0 where
  pub budget : 4 * work_of (outcome job.rules job.goal t.text) + 2 ≤ budget_or b.budget t.text
  pub answer : length (print Json t.text (outcome job.rules job.goal t.text)) ≤ max_answer_bytes

abbrev pub IsAllowed : Bench → Test → Subject → Type 0
IsAllowed b t Unbound = Unit {0}
IsAllowed b t TooLong = ⊥
IsAllowed b t (HasCode job) = IsWithin b t job

abbrev pub AreAllowed : Bench → List Trial → Type 0
AreAllowed b = All (λ t. IsAllowed b t.test t.subject)

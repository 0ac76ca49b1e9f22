-- What is known about a job: what its code does, and that its goal means something.
use Rattle.std.specs.Prelude.{◌≡◌, ◌≢◌, ℕ, true, List, Option, Some, None}
use Rattle.std.specs.Str.{all_scalars}
use Rattle.rpl_check.specs.Goal.{peg_of}
use Rattle.rpl_core.specs.Instr.{Instr}
use Rattle.rpl_core.specs.Meaning.{Open}
use Rattle.rpl_core.specs.Outcome.{outcome}
use Rattle.rpl_core.specs.Run.{run}
use Rattle.rpl_core.specs.Table.{bodies_of}
use Rattle.rpl_core.specs.View.{core_of}
use Rattle.rpl_compile_laws.specs.Laws.{Tells}
use Rattle.rosie_jobs.specs.Lines.{Job}
use Rattle.rosie_jobs.specs.Written.{WritesTrees}
use Rattle.rosie_jobs.specs.declared.job.CheckedGoal.{CheckedGoal}

-- each answer of the machine tells what the goal means
abbrev pub IsMeant : Job → Type 0
IsMeant job =
    (t : List ℕ) → all_scalars t ≡ true → (b : ℕ) → Tells (outcome job.rules job.goal t) b (run job.code t b)

-- the goal has an outcome on every text
abbrev pub IsTotal : Job → Type 0
IsTotal job = (t : List ℕ) → outcome job.rules job.goal t ≢ Open

-- the job of a goal that has this code
abbrev pub job_with : CheckedGoal → List Instr → Job
job_with g code = record { rules = bodies_of g.rules; goal = core_of (peg_of g.peg); code = code }

-- a code does what its goal means; one that has no goal captures trees
abbrev pub IsKnown : Option CheckedGoal → List Instr → Type 0
IsKnown (Some goal) code = IsMeant (job_with goal code)
IsKnown None code = WritesTrees code

use Rattle.rosie_jobs.proofs.Alike.{runs_as_its_goal}
use Rattle.rosie_jobs.proofs.laws.code_runs_as_its_goal.Goals as goal

pub returns : goal.returns
returns c = runs_as_its_goal

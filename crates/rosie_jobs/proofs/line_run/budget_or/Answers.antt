use Rattle.std.proofs.Common.{arith}
use Rattle.rosie_jobs.proofs.line_run.budget_or.Goals as goal

pub returns-in-None : goal.returns-in-None
returns-in-None c = rw c.in-None.is (omega (arith, c.characters.ensures.exact))

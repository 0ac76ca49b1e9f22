use Rattle.rosie_jobs.proofs.Written.{written_holds}
use Rattle.rosie_jobs.proofs.laws.written_law.Goals as goal

pub returns : goal.returns
returns c = written_holds

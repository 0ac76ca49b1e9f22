use Rattle.rosie_jobs.proofs.Agreeing.{traces_agree}
use Rattle.rosie_jobs.proofs.laws.trace_agrees.Goals as goal

pub returns : goal.returns
returns c = traces_agree

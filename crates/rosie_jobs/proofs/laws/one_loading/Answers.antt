use Rattle.rosie_jobs.proofs.One.{one_loading_holds}
use Rattle.rosie_jobs.proofs.SomeLoading.{some_loading}
use Rattle.rosie_jobs.proofs.laws.one_loading.Goals as goal

pub returns-clause-some : goal.returns-clause-some
returns-clause-some c = some_loading

pub returns-clause-only : goal.returns-clause-only
returns-clause-only c = one_loading_holds

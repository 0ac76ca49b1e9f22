use Rattle.rosie_suites.proofs.Once.{one_suite}
use Rattle.rosie_suites.proofs.laws.one_suite.Goals as goal

pub returns : goal.returns
returns c = one_suite

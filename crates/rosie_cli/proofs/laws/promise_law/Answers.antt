use Rattle.rosie_cli.proofs.Paying.{promise_holds}
use Rattle.rosie_cli.proofs.laws.promise_law.Goals as goal

pub returns : goal.returns
returns c = promise_holds

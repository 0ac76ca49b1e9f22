use Rattle.rosie_prepare.proofs.OneAnswer.{one_answer}
use Rattle.rosie_prepare.proofs.SomeAnswer.{some_answer}
use Rattle.rosie_prepare.proofs.laws.one_preparation.Goals as goal

pub returns : goal.returns
returns c = record { some = some_answer; only = one_answer }

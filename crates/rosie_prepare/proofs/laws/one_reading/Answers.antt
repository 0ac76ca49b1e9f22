use Rattle.rosie_prepare.proofs.OneAnswer.{reading_one}
use Rattle.rosie_prepare.proofs.SomeAnswer.{reading_some}
use Rattle.rosie_prepare.proofs.laws.one_reading.Goals as goal

pub returns : goal.returns
returns c = record { some = reading_some; only = reading_one }

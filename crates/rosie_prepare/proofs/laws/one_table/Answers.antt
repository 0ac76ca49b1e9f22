use Rattle.rosie_prepare.proofs.OneAnswer.{only_table}
use Rattle.rosie_prepare.proofs.SomeAnswer.{some_table}
use Rattle.rosie_prepare.proofs.laws.one_table.Goals as goal

pub returns : goal.returns
returns c = record { some = some_table; only = only_table }

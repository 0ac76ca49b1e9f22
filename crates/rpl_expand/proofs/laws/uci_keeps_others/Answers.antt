use Rattle.rpl_expand.proofs.Still.{kept_core}
use Rattle.rpl_expand.proofs.laws.uci_keeps_others.Goals as goal

pub returns : goal.returns
returns c = λ s t h. kept_core t h

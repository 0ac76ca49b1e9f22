use Rattle.rpl_macro.proofs.Twice.{kept_text}
use Rattle.rpl_macro.proofs.laws.uci_keeps_others.Goals as goal

pub returns : goal.returns
returns c = kept_text

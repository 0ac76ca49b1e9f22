use Rattle.rpl_syntax.proofs.Held.{read_held}
use Rattle.rpl_syntax.proofs.Said.{one_text_reading}
use Rattle.rpl_syntax.proofs.laws.readings_of_texts.Goals as goal

pub returns : goal.returns
returns c = record { only = one_text_reading; writable = read_held }

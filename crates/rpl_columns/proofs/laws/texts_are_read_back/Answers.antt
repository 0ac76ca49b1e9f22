use Rattle.rpl_columns.proofs.Unescaping.{text_back}
use Rattle.rpl_columns.proofs.laws.texts_are_read_back.Goals as goal

pub returns : goal.returns
returns c = text_back

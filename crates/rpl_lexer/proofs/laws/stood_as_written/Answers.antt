use Rattle.rpl_lexer.proofs.BoundsWritten.{bounds_written}
use Rattle.rpl_lexer.proofs.FormsWritten.{bounds_say}
use Rattle.rpl_lexer.proofs.Peeling.{bracket_written}
use Rattle.rpl_lexer.proofs.Texts.{text_written}
use Rattle.rpl_lexer.proofs.laws.stood_as_written.Goals as goal

pub returns-clause-texts : goal.returns-clause-texts
returns-clause-texts c = text_written

pub returns-clause-brackets : goal.returns-clause-brackets
returns-clause-brackets c = bracket_written

pub returns-clause-bounds : goal.returns-clause-bounds
returns-clause-bounds c = bounds_written

pub returns-clause-said : goal.returns-clause-said
returns-clause-said c = bounds_say

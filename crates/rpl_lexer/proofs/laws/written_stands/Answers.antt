use Rattle.rpl_lexer.proofs.Blanks.{bounds_said, bounds_wide}
use Rattle.rpl_lexer.proofs.Quotes.{in_text_stands}
use Rattle.rpl_lexer.proofs.Stood.{in_bracket_stands}
use Rattle.rpl_lexer.proofs.laws.written_stands.Goals as goal

pub returns-clause-texts : goal.returns-clause-texts
returns-clause-texts c = in_text_stands

pub returns-clause-brackets : goal.returns-clause-brackets
returns-clause-brackets c = in_bracket_stands

pub returns-clause-bounds : goal.returns-clause-bounds
returns-clause-bounds c = bounds_said

pub returns-clause-wide : goal.returns-clause-wide
returns-clause-wide c = bounds_wide

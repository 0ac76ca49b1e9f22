use Rattle.rpl_lexer.proofs.Bounded.{bounds_back}
use Rattle.rpl_lexer.proofs.Quotes.{reads_back}
use Rattle.rpl_lexer.proofs.Stood.{in_bracket_stands}
use Rattle.rpl_lexer.proofs.laws.written_reads_back.Goals as goal

pub returns-clause-texts : goal.returns-clause-texts
returns-clause-texts c = reads_back

pub returns-clause-brackets : goal.returns-clause-brackets
returns-clause-brackets c = in_bracket_stands

pub returns-clause-bounds : goal.returns-clause-bounds
returns-clause-bounds c = bounds_back

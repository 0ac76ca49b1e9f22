use Rattle.rpl_lexer.proofs.FormsWritten.{bounds_forms, bracket_forms, text_forms}
use Rattle.rpl_lexer.proofs.laws.forms_are_written.Goals as goal

pub returns-clause-texts : goal.returns-clause-texts
returns-clause-texts c = text_forms

pub returns-clause-brackets : goal.returns-clause-brackets
returns-clause-brackets c = bracket_forms

pub returns-clause-bounds : goal.returns-clause-bounds
returns-clause-bounds c = bounds_forms

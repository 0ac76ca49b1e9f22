use Rattle.rpl_lexer.proofs.Longest.{longest}
use Rattle.rpl_lexer.proofs.laws.longest_form.Goals as goal

pub returns : goal.returns
returns c = longest

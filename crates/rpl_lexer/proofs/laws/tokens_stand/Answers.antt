use Rattle.rpl_lexer.proofs.Cuts.{tokens_stand}
use Rattle.rpl_lexer.proofs.laws.tokens_stand.Goals as goal

pub returns : goal.returns
returns c = tokens_stand

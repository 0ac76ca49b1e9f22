use Rattle.rpl_lexer.proofs.Computing.{either}
use Rattle.rpl_lexer.proofs.Cuts.{one_cut}
use Rattle.rpl_lexer.proofs.laws.one_cut.Goals as goal

pub returns-clause-one : goal.returns-clause-one
returns-clause-one c = λ s. one_cut s 0 0

pub returns-clause-either : goal.returns-clause-either
returns-clause-either c = either

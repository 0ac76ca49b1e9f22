use Rattle.rpl_lexer.proofs.Told.{keyword_told, sign_told}
use Rattle.rpl_lexer.proofs.laws.words_and_signs.Goals as goal

pub returns : goal.returns
returns c = record { keywords = keyword_told; signs = sign_told }

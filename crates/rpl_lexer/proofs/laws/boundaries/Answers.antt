use Rattle.rpl_lexer.proofs.Edges.{token_cuttable}
use Rattle.rpl_lexer.proofs.laws.boundaries.Goals as goal

pub returns : goal.returns
returns c = λ s t u h. let k = token_cuttable s t u h in (k.start, k.end)

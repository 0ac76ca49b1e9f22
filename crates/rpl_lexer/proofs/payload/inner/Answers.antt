use Rattle.rpl_lexer.proofs.Edges.{token_cuttable}
use Rattle.rpl_lexer.proofs.payload.inner.Goals as goal

pub range-requires-clause-start_boundary : goal.range-requires-clause-start_boundary
range-requires-clause-start_boundary c = λ _. (token_cuttable c.args.text.now c.args.token c.utf8.text c.requires).inner

pub range-requires-clause-end_boundary : goal.range-requires-clause-end_boundary
range-requires-clause-end_boundary c = (token_cuttable c.args.text.now c.args.token c.utf8.text c.requires).end

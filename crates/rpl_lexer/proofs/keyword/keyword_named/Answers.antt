use Rattle.rpl_lexer.proofs.Words.{named_keyword}
use Rattle.rpl_lexer.proofs.keyword.keyword_named.Goals as goal

pub returns : goal.returns
returns c = named_keyword c.from_name.result c.args.name.now c.from_name.ensures

use Rattle.rpl_codefile.proofs.Making.{has_spelling_holds}
use Rattle.rpl_codefile.proofs.laws.has_spelling.Goals as goal

pub returns : goal.returns
returns c = has_spelling_holds

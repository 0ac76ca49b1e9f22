use Rattle.rpl_codefile.proofs.One.{one_spelling_holds}
use Rattle.rpl_codefile.proofs.laws.one_spelling.Goals as goal

pub returns : goal.returns
returns c = one_spelling_holds

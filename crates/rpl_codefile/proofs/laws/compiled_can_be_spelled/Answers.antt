use Rattle.rpl_codefile.proofs.Fitting.{compiled_can_be_spelled}
use Rattle.rpl_codefile.proofs.laws.compiled_can_be_spelled.Goals as goal

pub returns : goal.returns
returns c = compiled_can_be_spelled

use Rattle.rpl_codefile.proofs.Decides.{one_reading_holds}
use Rattle.rpl_codefile.proofs.laws.one_reading.Goals as goal

pub returns : goal.returns
returns c = one_reading_holds

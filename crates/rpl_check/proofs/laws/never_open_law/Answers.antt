use Rattle.rpl_check.proofs.Accepting.{whole_always}
use Rattle.rpl_check.proofs.laws.never_open_law.Goals as goal

pub returns : goal.returns
returns c = whole_always

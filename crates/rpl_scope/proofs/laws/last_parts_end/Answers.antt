use Rattle.rpl_scope.proofs.Paths.{last_parts}
use Rattle.rpl_scope.proofs.laws.last_parts_end.Goals as goal

pub returns : goal.returns
returns c = last_parts

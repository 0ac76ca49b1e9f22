use Rattle.rpl_scope.proofs.Maps.{none_numbered}
use Rattle.rpl_scope.proofs.named.Named.new.Goals as goal

pub invariant_of-result : goal.invariant_of-result
invariant_of-result g c = none_numbered c.new.result.items c.new-2.result c.new-3.result c.new.ensures.items

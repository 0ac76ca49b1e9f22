use Rattle.std.proofs.Common.{subst, sym}
use Rattle.rpl_classes.specs.Sets.{IsNormal}
use Rattle.rpl_classes.proofs.Operations.{nil_normal}
use Rattle.rpl_classes.proofs.set.Set.empty.Goals as goal

pub sealed-requires : goal.sealed-requires
sealed-requires c = subst IsNormal (sym c.empty.ensures) nil_normal

use Rattle.std.proofs.Common.{subst}
use Rattle.std.specs.Prelude.{◌≡◌, IfOk}
use Rattle.rpl_classes.proofs.Normal.{norm_whole}
use Rattle.rpl_classes.proofs.set.Set.all.Goals as goal

pub returns : goal.returns
returns c = subst (λ l. IfOk c.from_ranges.result (λ s. s ≡ l)) norm_whole c.from_ranges.ensures.ranges

use Rattle.std.proofs.Common.{◌≡◌}
use Rattle.rpl_classes.specs.Norm.{norm}
use Rattle.rpl_classes.proofs.Normal.{norm_only}
use Rattle.rpl_classes.proofs.Operations.{made_has}
use Rattle.rpl_classes.proofs.set.Set.from_ranges.Goals as goal

pub listed-requires : goal.listed-requires
listed-requires c = c.in_ok-characters.ensures.normal

pub returns-clause-ranges : goal.returns-clause-ranges
returns-clause-ranges c =
    made_has (λ s. s ≡ norm c.args.ranges.now) c.listed.result _
    (norm_only c.args.ranges.now c.in_ok-characters.field-0 c.in_ok-characters.ensures.normal
    c.in_ok-characters.ensures.members) c.listed.ensures

use Rattle.std.proofs.Common.{◌≡◌, take}
use Rattle.std.specs.Prelude.{map}
use Rattle.rpl_intern.proofs.tables.Table+ClassRange.sets.Given as goal

abbrev pub invariant-loop-ranges : goal.invariant-loop-ranges
invariant-loop-ranges l = l.sets ≡ map (λ v. v.items) (take l.ranges-index l.ranges-items)

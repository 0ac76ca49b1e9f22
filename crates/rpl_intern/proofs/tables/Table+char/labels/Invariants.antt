use Rattle.std.proofs.Common.{◌≡◌, take}
use Rattle.std.specs.Prelude.{map}
use Rattle.rpl_intern.proofs.tables.Table+char.labels.Given as goal

abbrev pub invariant-loop-characters : goal.invariant-loop-characters
invariant-loop-characters l = l.labels ≡ map (λ v. v.items) (take l.characters-index l.characters-items)

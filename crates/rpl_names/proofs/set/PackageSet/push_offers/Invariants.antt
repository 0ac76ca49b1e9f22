use Rattle.std.proofs.Common.{◌≡◌, ◌++◌, take}
use Rattle.std.specs.List.{flat_map}
use Rattle.rpl_scope.specs.Seen.{module_seen}
use Rattle.rpl_names.specs.Names.{offered_name}
use Rattle.rpl_names.specs.Sets.{set_seen}
use Rattle.rpl_names.proofs.set.PackageSet.push_offers.Given as goal

abbrev pub invariant-loop-place : goal.invariant-loop-place
invariant-loop-place l =
    l.names.items ≡ l.fn.names.items ++ flat_map (λ e. offered_name (set_seen l.self) l.number e.0)
    (take l.place (module_seen l.from).names)

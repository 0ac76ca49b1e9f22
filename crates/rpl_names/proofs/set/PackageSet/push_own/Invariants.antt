use Rattle.std.proofs.Common.{◌≡◌, ◌++◌, None, take}
use Rattle.std.specs.List.{flat_map}
use Rattle.rpl_scope.specs.Seen.{module_seen}
use Rattle.rpl_names.specs.Names.{listed}
use Rattle.rpl_names.specs.Sets.{set_seen}
use Rattle.rpl_names.specs.inside.Listing.{named}
use Rattle.rpl_names.proofs.set.PackageSet.push_own.Given as goal

abbrev pub invariant-loop-number : goal.invariant-loop-number
invariant-loop-number l =
    l.names.items ≡ l.fn.names.items ++ flat_map (λ e. listed (set_seen l.self) (named None e.0))
    (take l.number (module_seen l.own).names)

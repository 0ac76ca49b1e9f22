use Rattle.std.proofs.Common.{◌≡◌, ◌++◌, Some, take}
use Rattle.std.specs.Prelude.{chars}
use Rattle.std.specs.List.{flat_map}
use Rattle.rpl_scope.specs.Seen.{module_seen}
use Rattle.rpl_names.specs.Names.{listed}
use Rattle.rpl_names.specs.Sets.{set_seen}
use Rattle.rpl_names.specs.inside.Listing.{named}
use Rattle.rpl_names.proofs.set.PackageSet.push_behind.Given as goal

abbrev pub invariant-loop-place : goal.invariant-loop-place
invariant-loop-place l =
    l.names.items ≡ l.fn.names.items
    ++ flat_map (λ e. listed (set_seen l.self) (named (Some (chars l.prefix)) e.0))
    (take l.place (module_seen l.from).names)

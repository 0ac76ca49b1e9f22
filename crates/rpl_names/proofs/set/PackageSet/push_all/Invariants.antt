use Rattle.std.proofs.Common.{◌≡◌, ◌++◌, Some, None, take}
use Rattle.std.specs.List.{flat_map}
use Rattle.std.specs.Prelude.{slice_get}
use Rattle.rpl_scope.specs.Seen.{module_seen}
use Rattle.rpl_names.specs.Names.{listed, names_of}
use Rattle.rpl_names.specs.Sets.{set_seen}
use Rattle.rpl_names.proofs.set.PackageSet.push_all.Given as goal

abbrev pub invariant-loop-number : goal.invariant-loop-number
invariant-loop-number l =
    l.names.items ≡ (l.fn.names.items ++ flat_map (listed (set_seen l.self)) (names_of None (Some (module_seen l.own))))
    ++ flat_map (λ e. flat_map (listed (set_seen l.self))
    (names_of (Some e.0) (slice_get (set_seen l.self).stock.modules e.1.number)))
    (take l.number (module_seen l.own).prefixes)

use Rattle.std.proofs.Common.{◌≡◌, ◌++◌, take}
use Rattle.std.specs.List.{flat_map}
use Rattle.std.specs.Prelude.{map}
use Rattle.rpl_names.specs.Names.{listed_under, prefixes}
use Rattle.rpl_names.specs.Sets.{set_seen}
use Rattle.rosie_inspect.specs.Groups.{group_lines}
use Rattle.rosie_inspect.specs.Names.{name_line}
use Rattle.rosie_inspect.proofs.groups.push_prefixes.Given as goal

abbrev pub invariant-loop-place : goal.invariant-loop-place
invariant-loop-place l =
    flat_map (group_lines (set_seen l.packages)) l.groups.items
    ≡ flat_map (group_lines (set_seen l.packages)) l.fn.groups.items
    ++ map name_line (flat_map (listed_under (set_seen l.packages)) (take l.place (prefixes (set_seen l.packages))))

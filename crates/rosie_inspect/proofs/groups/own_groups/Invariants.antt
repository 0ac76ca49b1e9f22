use Rattle.std.proofs.Common.{◌≡◌, take}
use Rattle.std.specs.List.{flat_map}
use Rattle.std.specs.Prelude.{map}
use Rattle.rpl_names.specs.Sets.{set_seen}
use Rattle.rosie_inspect.specs.Groups.{group_lines}
use Rattle.rosie_inspect.specs.Names.{name_line}
use Rattle.rosie_inspect.proofs.groups.own_groups.Given as goal

abbrev pub invariant-loop-listed : goal.invariant-loop-listed
invariant-loop-listed l =
    flat_map (group_lines (set_seen l.packages)) l.groups.items ≡ map name_line (take l.listed-index l.listed-items)

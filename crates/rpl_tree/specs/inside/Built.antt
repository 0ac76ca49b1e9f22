-- The nodes and the open places that a `Building` holds.
use Rattle.std.specs.Prelude.{reverse}
use Rattle.rpl_tree.specs.declared.building.Building.{Building}
use Rattle.rpl_tree.specs.inside.Building.{Built}

abbrev pub built : Building → Built
built b = record { nodes = b.nodes.items; open_at = reverse b.open.items }

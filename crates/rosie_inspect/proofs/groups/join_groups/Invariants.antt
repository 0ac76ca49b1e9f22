use Rattle.std.proofs.Common.{take, string_bytes}
use Rattle.std.specs.List.{flat_map}
use Rattle.rpl_names.specs.Roots.{Packages}
use Rattle.rosie_inspect.specs.Ascending.{AreWritten}
use Rattle.rosie_inspect.specs.Groups.{HoldsOffers, group_lines}
use Rattle.rosie_inspect.proofs.groups.join_groups.Given as goal

abbrev pub invariant-loop-group : goal.invariant-loop-group
invariant-loop-group l =
    (p : Packages) → HoldsOffers p l.offers
    → AreWritten (flat_map (group_lines p) (take l.group-index l.groups)) (string_bytes l.lines.text) l.lines.last

use Rattle.std.proofs.Common.{◌≡◌, [], drop}
use Rattle.std.specs.Prelude.{fold}
use Rattle.rpl_tree.specs.inside.Building.{taken_in}
use Rattle.rpl_tree.specs.inside.Built.{built}
use Rattle.rpl_tree.proofs.building.Building.fill.Given as goal

-- what is built so far, and what the other captures will do, is the whole
abbrev pub invariant-loop-c : goal.invariant-loop-c
invariant-loop-c l =
    fold taken_in (built l.self) (drop l.c-index l.caught) ≡ fold taken_in (record { nodes = []; open_at = [] })
    l.caught

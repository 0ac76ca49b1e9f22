use Rattle.std.proofs.Common.{◌≡◌, ◌++◌, take}
use Rattle.std.specs.List.{All, flat_map}
use Rattle.rpl_codefile.specs.Spelling.{FitsSet, set}
use Rattle.rpl_codefile.proofs.writing.put_sets.Given as goal

abbrev pub invariant-loop-item : goal.invariant-loop-item
invariant-loop-item l = (l.out ≡ l.fn.out ++ flat_map set (take l.item-index l.sets))
    × All FitsSet (take l.item-index l.sets)

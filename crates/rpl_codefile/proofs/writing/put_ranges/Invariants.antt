use Rattle.std.proofs.Common.{◌≡◌, ◌++◌, take}
use Rattle.std.specs.List.{All, flat_map}
use Rattle.rpl_codefile.specs.Spelling.{ShortRange, range}
use Rattle.rpl_codefile.proofs.writing.put_ranges.Given as goal

abbrev pub invariant-loop-item : goal.invariant-loop-item
invariant-loop-item l = (l.out ≡ l.fn.out ++ flat_map range (take l.item-index l.ranges))
    × All ShortRange (take l.item-index l.ranges)

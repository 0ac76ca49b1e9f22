use Rattle.std.proofs.Common.{◌≡◌, take}
use Rattle.rpl_classes.proofs.gathered.are_same.Given as goal

abbrev pub invariant-loop-index : goal.invariant-loop-index
invariant-loop-index l = l.difference ≡ 0 → take l.index l.a ≡ take l.index l.b

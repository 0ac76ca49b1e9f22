use Rattle.std.proofs.Common.{◌≡◌, ◌++◌, take}
use Rattle.std.specs.List.{All, flat_map}
use Rattle.rpl_codefile.specs.Spelling.{Short, instr}
use Rattle.rpl_codefile.proofs.writing.put_instrs.Given as goal

abbrev pub invariant-loop-item : goal.invariant-loop-item
invariant-loop-item l = (l.out ≡ l.fn.out ++ flat_map instr (take l.item-index l.code))
    × All Short (take l.item-index l.code)

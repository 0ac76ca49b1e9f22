use Rattle.std.proofs.Common.{take, map}
use Rattle.rpl_core.specs.Numbers.{instr_of}
use Rattle.rpl_core.specs.Program.{labels_of, sets_of}
use Rattle.rpl_intern.specs.Written.{Adds}
use Rattle.rpl_codefile.proofs.copying.copy_code.Given as goal

abbrev pub invariant-loop-item : goal.invariant-loop-item
invariant-loop-item l =
    Adds l.fn.draft l.draft (map (instr_of (sets_of l.program) (labels_of l.program)) (take l.item-index l.code))

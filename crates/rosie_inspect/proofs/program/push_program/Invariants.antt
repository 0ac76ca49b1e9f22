use Rattle.std.proofs.Common.{◌≡◌, ◌++◌, drop, string_bytes}
use Rattle.std.specs.Prelude.{map}
use Rattle.rpl_core.specs.Numbers.{instr_of}
use Rattle.rpl_core.specs.Program.{instructions, code_of, sets_of, labels_of}
use Rattle.rosie_inspect.specs.Listing.{lines}
use Rattle.rosie_inspect.proofs.program.push_program.Given as goal

-- what is written, with the lines that are left, is the whole
abbrev pub invariant-loop-address : goal.invariant-loop-address
invariant-loop-address l =
    string_bytes l.out ++ lines l.address
    (map (instr_of (sets_of l.program) (labels_of l.program)) (drop l.address (code_of l.program)))
    ≡ string_bytes l.fn.out ++ lines 0 (instructions l.program)

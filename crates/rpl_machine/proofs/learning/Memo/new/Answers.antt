use Rattle.std.proofs.Common.{List, Result, Ok, Err, IfOk}
use Rattle.std.proofs.lemmas.Grind.{merely}
use Rattle.regex_class.specs.Ranges.{Range}
use Rattle.rpl_core.specs.Program.{code_of, sets_of}
use Rattle.rpl_core.specs.declared.instr.Instr.{Instr}
use Rattle.rpl_core.specs.declared.program.Program.{Program}
use Rattle.rpl_machine.specs.Known.{IsMemoOf}
use Rattle.rpl_machine.specs.declared.learning.Memo.{Memo}
use Rattle.rpl_turns.specs.Tables.{IsSound}
use Rattle.rpl_machine.proofs.learning.Memo.new.Goals as goal

-- what is true of any code is true of each program's
for_each : {E : Type 0} (r : Result Memo E) → IfOk r (λ memo. (sets : List (List Range)) (code : List Instr)
    → IsSound sets code memo.table) → IfOk r (λ memo. (program : Program) → IsMemoOf program memo)
for_each (Ok memo) h = λ p. merely (h (sets_of p) (code_of p))
for_each (Err e) h = tt

pub returns : goal.returns
returns c = for_each c.empty.result c.empty.ensures

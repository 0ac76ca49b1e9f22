-- The numbers of the statuses.
use Rattle.rosie_run.specs.declared.status.Status.TheVariants.{Matched, NoMatch, Refused, LineFault, ReadFault}
use Rattle.rosie_run.specs.declared.status.Status.TheVariants.{WriteFault, NoMemory, Spent}
use Rattle.rosie_run.specs.declared.status.Status.{Status}
use Rattle.std.specs.Prelude.{ℕ}

abbrev pub code_of : Status → ℕ
code_of Matched = 0
code_of NoMatch = 1
code_of Refused = 2
code_of LineFault = 3
code_of ReadFault = 4
code_of WriteFault = 5
code_of NoMemory = 6
code_of Spent = 7

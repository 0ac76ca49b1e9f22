-- What the result of loading a code file says.
use Rattle.std.specs.Prelude.{ℕ, List, Option, Result, Ok, Err, string_bytes}
use Rattle.rosie_run.specs.declared.unready.Unready.{Unready}
use Rattle.rosie_run.specs.declared.unready.Unready.TheVariants.{NoMemory, ReadFault, Refused}
use Rattle.rpl_core.specs.Program.{instructions}
use Rattle.rpl_core.specs.declared.program.Program.{Program}
use Rattle.rosie_jobs.specs.Loaded.{IsLoaded}

-- what an answer says of the file: out of memory and a failed read say nothing
abbrev pub Loads : List ℕ → Option (List ℕ) → Result Program Unready → Type 0
Loads path file (Ok program) = IsLoaded path file (Ok (instructions program))
Loads path file (Err NoMemory) = Unit {0}
Loads path file (Err (Refused line)) = IsLoaded path file (Err (string_bytes line))
Loads path file (Err (ReadFault failed)) = Unit {0}

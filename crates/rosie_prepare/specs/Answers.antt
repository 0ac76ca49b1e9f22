-- What a result says about what is due.
use Rattle.std.specs.Prelude.{◌≡◌, Result, Ok, Err, string_bytes}
use Rattle.rosie_prepare.specs.Prepared.{OrLine}
use Rattle.rosie_run.specs.declared.unready.Unready.{Unready}
use Rattle.rosie_run.specs.declared.unready.Unready.TheVariants.{NoMemory, Refused, ReadFault}

-- a refusal has the line that is due; out of memory and a failed read say nothing of it
abbrev pub IsDue : {A : Type 0} → Unready → OrLine A → Type 0
IsDue NoMemory d = Unit {0}
IsDue (Refused line) d = d ≡ Err (string_bytes line)
IsDue (ReadFault path) d = Unit {0}

-- what is made, as it is seen, is what is due, or a line is
abbrev pub Prepares : {X A : Type 0} → (X → A) → Result X Unready → OrLine A → Type 0
Prepares view (Ok x) d = d ≡ Ok (view x)
Prepares view (Err u) d = IsDue u d

-- What an answer says of what is defined.
use Rattle.std.specs.Prelude.{◌≡◌, ◌≢◌, Result, Ok, Err}
use Rattle.rpl_parser.specs.declared.fault.ParseFault.{ParseFault}
use Rattle.rpl_parser.specs.declared.fault.ParseKind.TheVariants.{NoMemory}

-- what was returned, seen by view, is the answer, unless memory ran out
abbrev pub Answers : {X Y : Type 0} → (X → Y) → Result X ParseFault → Result Y ParseFault → Type 0
Answers view (Ok x) answer = answer ≡ Ok (view x)
Answers view (Err f) answer = (f.kind ≢ NoMemory → answer ≡ Err f) × (f.kind ≡ NoMemory → f.at ≡ 0)

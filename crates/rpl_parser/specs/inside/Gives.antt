-- What a function of the parser returns, beside what the reading gives.
use Rattle.std.specs.Prelude.{◌≡◌, Result, Ok, Err, Option, Some, None}
use Rattle.rpl_parser.specs.declared.refusal.Refusal.{Refusal}
use Rattle.rpl_parser.specs.declared.refusal.Refusal.TheVariants.{Memory, Syntax}

-- a refusal for its syntax comes where there is no reading
abbrev pub Fails : {Y : Type 0} → Refusal → Option Y → Type 0
Fails Memory reading = Unit {0}
Fails Syntax reading = reading ≡ None

-- what was returned, seen by view, is the reading, unless memory ran out
abbrev pub Gives : {X Y : Type 0} → (X → Y) → Result X Refusal → Option Y → Type 0
Gives view (Ok x) reading = reading ≡ Some (view x)
Gives view (Err e) reading = Fails e reading

-- What a call gives beside what is defined.
use Rattle.std.specs.Prelude.{◌≡◌, Bool, true, false, Option, Result, Ok, Err}
use Rattle.rpl_scope.specs.declared.fault.LoadFault.{LoadFault}
use Rattle.rpl_scope.specs.declared.fault.Stop.{Stop}
use Rattle.rpl_scope.specs.declared.fault.Stop.TheVariants.{Memory, Fault}
use Rattle.rpl_scope.specs.declared.fault.LoadKind.{LoadKind}
use Rattle.rpl_scope.specs.declared.fault.LoadKind.TheVariants.{NoMemory, ReadFault}
pub use Rattle.rpl_scope.specs.Results.{Or, fault_at, fault, ◌>>=◌, in_turn, ◌orelse◌, first_fault, unless}

-- out of memory and a failed read are no faults of the texts: nothing is said of them here
abbrev pub is_silent : LoadKind → Bool
is_silent NoMemory = true
is_silent ReadFault = true
is_silent _ = false

-- a call that stops stops with the fault that is defined
abbrev pub StopIs : {A : Type 0} → Stop → Or A → Type 0
StopIs Memory r = Unit {0}
StopIs (Fault f) r = (is_silent f.kind ≡ false) × (r ≡ Err f)

-- what came of a call, as it is seen, is what is defined
abbrev pub Gives : {X A : Type 0} → (X → A) → Result X Stop → Or A → Type 0
Gives view (Ok x) r = r ≡ Ok (view x)
Gives view (Err s) r = StopIs s r

-- a check that found nothing, or the first fault
abbrev pub Checks : {X : Type 0} → Result X Stop → Option LoadFault → Type 0
Checks r o = Gives (λ _. tt {0}) r (unless o (tt {0}))

-- a stop is because memory ran out, or is this fault
abbrev pub IsStop : Stop → LoadFault → Type 0
IsStop Memory f = Unit {0}
IsStop (Fault g) f = g ≡ f

-- What a call answers that may find no set.
use Rattle.std.specs.Prelude.{◌≡◌, ◌≢◌, Bool, List, Option, Some, None, Result, Ok, Err}
use Rattle.regex_class.specs.Ranges.{Range}
use Rattle.rpl_classes.specs.declared.brackets.Bracket.{Bracket}
use Rattle.rpl_classes.specs.declared.fault.SetFault.{SetFault}
use Rattle.rpl_classes.specs.declared.fault.SetFault.TheVariants.{NoMemory, UnknownClass}

-- the set where there is one, and UnknownClass at 0 where there is none; or memory ran out
abbrev pub IsNamed : Option (List Range) → Result (List Range) SetFault → Type 0
IsNamed (Some s) (Ok t) = t ≡ s
IsNamed None (Ok t) = ⊥
IsNamed (Some s) (Err e) = e ≡ NoMemory
IsNamed None (Err e) = e ≢ NoMemory → e ≡ UnknownClass 0

-- a bracket's set and its mark, or the first fault; or memory ran out
abbrev pub IsRead : Result (List Range × Bool) SetFault → Result Bracket SetFault → Type 0
IsRead r (Ok b) = r ≡ Ok (b.set, b.negated)
IsRead r (Err e) = e ≢ NoMemory → r ≡ Err e

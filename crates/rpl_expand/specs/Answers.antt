-- What an answer says of the first core that is too large.
use Rattle.std.specs.Prelude.{◌≡◌, Option, Some, None, Result, Ok, Err}
use Rattle.rpl_expand.specs.declared.fault.ExpandFault.{ExpandFault}
use Rattle.rpl_expand.specs.declared.fault.ExpandFault.TheVariants as V
use Rattle.rpl_expand.specs.Faults.{Fault, TooLarge}

-- the fault that an answer names; out of memory is none
abbrev pub fault_named : ExpandFault → Option Fault
fault_named V.NoMemory = None
fault_named (V.TooLarge rule size depth) = Some (TooLarge rule size depth)

-- what is named is the fault that is due
abbrev pub IsDue : Option Fault → Option Fault → Type 0
IsDue due None = Unit {0}
IsDue due (Some f) = due ≡ Some f

-- the answer is Ok only where no fault is due, and an error names the one that is, or out of memory
abbrev pub Answers : {A : Type 0} → Option Fault → Result A ExpandFault → Type 0
Answers due (Ok a) = due ≡ None
Answers due (Err e) = IsDue due (fault_named e)

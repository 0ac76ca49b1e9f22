-- What an answer says of a fault.
use Rattle.std.specs.Prelude.{◌≡◌, Option, Some, None, Result, Ok, Err}
use Rattle.rpl_check.specs.declared.fault.BehindCause as B
use Rattle.rpl_check.specs.declared.fault.BehindCause.TheVariants as V
use Rattle.rpl_check.specs.declared.fault.CheckFault.{CheckFault}
use Rattle.rpl_check.specs.declared.fault.CheckFault.TheVariants as W
use Rattle.rpl_check.specs.Causes.{Cause, Recursive, Repetition, TooLong}
use Rattle.rpl_check.specs.Faults.{Fault, LookBehind, LeftRecursion, EmptyLoop, HaltInside}

abbrev pub cause_named : B.BehindCause → Cause
cause_named V.Recursive = Recursive
cause_named V.Repetition = Repetition
cause_named V.TooLong = TooLong

-- the cause, if there is one
abbrev pub some_cause : Option B.BehindCause → Option Cause
some_cause None = None
some_cause (Some cause) = Some (cause_named cause)

-- the fault that an answer names; out of memory is none
abbrev pub fault_named : CheckFault → Option Fault
fault_named W.NoMemory = None
fault_named (W.LookBehind rule cause) = Some (LookBehind rule (cause_named cause))
fault_named (W.LeftRecursion rules) = Some (LeftRecursion rules.items)
fault_named (W.EmptyLoop rule) = Some (EmptyLoop rule)
fault_named (W.HaltInside rule) = Some (HaltInside rule)

-- what is named is the fault that is due
abbrev pub IsDue : Option Fault → Option Fault → Type 0
IsDue due None = Unit {0}
IsDue due (Some f) = due ≡ Some f

-- the answer is Ok only where no fault is due, and an error names the one that is, or out of memory
abbrev pub Answers : {A : Type 0} → Option Fault → Result A CheckFault → Type 0
Answers due (Ok a) = due ≡ None
Answers due (Err e) = IsDue due (fault_named e)

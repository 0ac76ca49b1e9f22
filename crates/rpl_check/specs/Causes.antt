-- What is wrong with the look-behinds of a core.
use Rattle.std.specs.Prelude.{nat_lt, if◌then◌else◌, Option, Some, None}
use Rattle.std.specs.Option.{option_or}
use Rattle.rpl_core.specs.Core.{Core, Seq, Choice, Many, Not, And, Behind, Capture}
use Rattle.rpl_core.specs.Core.{Cores, NoMore, Then}
use Rattle.rpl_core.specs.Lengths.{has_call, has_repetition, greatest}

-- what is wrong with a look-behind: it calls a rule, it repeats, or it may be longer than 255 characters
pub data Cause : Type 0 where
  Recursive : Cause
  Repetition : Cause
  TooLong : Cause

-- what is wrong with the body of a look-behind
abbrev pub cause_of : Core → Option Cause
cause_of p =
    if has_call p then Some Recursive
    else (if has_repetition p then Some Repetition else (if nat_lt 255 (greatest p) then Some TooLong else None))

-- what is wrong with the first bad look-behind in reading order, an outer one before those inside it
abbrev mutual
  pub first_cause : Core → Option Cause
  first_cause (Seq ps) = first_cause_in ps
  first_cause (Choice ps) = first_cause_in ps
  first_cause (Many p) = first_cause p
  first_cause (Not p) = first_cause p
  first_cause (And p) = first_cause p
  first_cause (Behind l n p) = option_or (cause_of p) (first_cause p)
  first_cause (Capture c p) = first_cause p
  first_cause _ = None

  pub first_cause_in : Cores → Option Cause
  first_cause_in NoMore = None
  first_cause_in (Then p ps) = option_or (first_cause p) (first_cause_in ps)

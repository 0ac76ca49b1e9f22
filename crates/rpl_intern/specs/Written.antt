-- What a draft says, and how it grows.
use Rattle.std.specs.Prelude.{◌≡◌, ℕ, ◌+◌, List, ◌++◌, length, map, Option, Some, None, option_map, slice_get}
use Rattle.regex_class.specs.Ranges.{Range}
use Rattle.rpl_core.specs.Instr.{Instr}
use Rattle.rpl_core.specs.Instr as I
use Rattle.rpl_core.specs.declared.instr.Instr as R
use Rattle.rpl_core.specs.declared.instr.Instr.TheVariants as V
use Rattle.rpl_intern.specs.declared.draft.Draft.{Draft}
use Rattle.rpl_intern.specs.Uses.{sets_in, labels_in, Keeps}

-- an instruction that names no set and no text
abbrev pub plain : R.Instr → Option Instr
plain (V.Set k) = None
plain V.Start = Some I.Start
plain V.End = Some I.End
plain (V.Choice l) = Some (I.Choice l)
plain (V.Commit l) = Some (I.Commit l)
plain V.FailTwice = Some I.FailTwice
plain (V.BackCommit l) = Some (I.BackCommit l)
plain V.Fail = Some I.Fail
plain (V.Back k) = Some (I.Back k)
plain (V.Meet l) = Some (I.Meet l)
plain (V.Call l) = Some (I.Call l)
plain V.Return = Some I.Return
plain (V.Open k) = None
plain V.Close = Some I.Close
plain (V.Note k) = None
plain V.Finish = Some I.Finish
plain (V.TestSet l k) = None
plain (V.Span k) = None
plain (V.PartialCommit l) = Some (I.PartialCommit l)
plain V.Halt = Some I.Halt

-- an instruction with its set or its text in place, if the table has that
abbrev pub shown : List (List Range) → List (List ℕ) → R.Instr → Option Instr
shown sets labels (V.Set k) = option_map I.Set (slice_get sets k)
shown sets labels (V.TestSet l k) = option_map (I.TestSet l) (slice_get sets k)
shown sets labels (V.Span k) = option_map I.Span (slice_get sets k)
shown sets labels (V.Open k) = option_map I.Open (slice_get labels k)
shown sets labels (V.Note k) = option_map I.Note (slice_get labels k)
shown sets labels i = plain i

-- the draft says these instructions
abbrev pub Says : Draft → List Instr → Type 0
Says d m = map (shown d.sets d.labels) d.code ≡ map Some m

-- the draft has these instructions more, and its tables what they use
pub record Adds (old new : Draft) (is : List Instr) : Type 0 where
  pub long : length new.code ≡ length old.code + length is
  pub sets : Keeps old.sets (sets_in is) new.sets
  pub labels : Keeps old.labels (labels_in is) new.labels
  pub code : (m : List Instr) → Says old m → Says new (m ++ is)

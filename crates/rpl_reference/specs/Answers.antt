-- What a run answers.
use Rattle.std.specs.Prelude.{◌≡◌, Option, Some, None, map}
use Rattle.rpl_core.specs.Forest as F
use Rattle.rpl_core.specs.Run as R
use Rattle.rpl_reference.specs.declared.machine.Answer as A
use Rattle.rpl_reference.specs.declared.machine.Answer.TheVariants as V
use Rattle.rpl_reference.specs.declared.machine.Caught.{Caught}
use Rattle.rpl_reference.specs.declared.machine.Caught.TheVariants as C

-- a capture as the definition has it
abbrev pub caught_of : Caught → F.Caught
caught_of (C.Begin c i) = F.Begin c i
caught_of (C.Finish i) = F.Finish i
caught_of (C.Note x i) = F.Mark x i

-- the answer as the definition has it
abbrev pub answer_of : A.Answer → R.Answer
answer_of (V.At i n cs) = R.Matched n i (map caught_of cs.items)
answer_of (V.Fail n) = R.Failed n

-- the answer is the definition's, and there is none where that is unfinished
abbrev pub IsAnswer : R.Answer → Option A.Answer → Type 0
IsAnswer x (Some a) = x ≡ answer_of a
IsAnswer x None = x ≡ R.Unfinished

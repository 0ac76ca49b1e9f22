-- The outcome of a goal on a whole text.
use Rattle.std.specs.Prelude.{ℕ, ◌+◌, ◌*◌, List, length}
use Rattle.rpl_core.specs.Core.{Core}
use Rattle.rpl_core.specs.Meaning.{Outcome, Open, Fail, At, HaltAt, peg}

-- the depth that is enough for a text and a table
abbrev pub depth : List ℕ → List Core → ℕ
depth t R = (length t + 1) * (length R + 1)

-- a match that halted is a match
abbrev pub as_match : Outcome → Outcome
as_match (HaltAt w j f) = At w j f
as_match o = o

-- the outcome of the goal g from the first place of the text t
abbrev pub outcome : List Core → Core → List ℕ → Outcome
outcome R g t = as_match (peg (depth t R) R t g 0)

-- the work that an outcome took; one that is open has none
abbrev pub work_of : Outcome → ℕ
work_of Open = 0
work_of (Fail w) = w
work_of (At w j f) = w
work_of (HaltAt w j f) = w

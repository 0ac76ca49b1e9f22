-- What the compiler says of a code: what it does, and where there is none because it is too long.
use Rattle.std.specs.Prelude.{◌≡◌, ◌≢◌, ℕ, ◌<◌, true, List, length}
use Rattle.std.specs.Str.{all_scalars}
use Rattle.rpl_core.specs.Core.{Core}
use Rattle.rpl_core.specs.Instr.{Instr}
use Rattle.rpl_core.specs.Meaning.{Open}
use Rattle.rpl_core.specs.Outcome.{outcome}
use Rattle.rpl_core.specs.Programs.{IsCode, max_code_length}
use Rattle.rpl_compile_laws.specs.Laws.{IsCapture, RunsAs}
use Rattle.rpl_safe.specs.Safe.{IsSafe}

-- the goal's code over the table has more than 1,048,576 instructions
abbrev pub HasLongCode : List Core → Core → Type 0
HasLongCode R g = (code : List Instr) × IsCode R g code × (max_code_length < length code)

-- The goal has a meaning on each text. On that text the code does what the goal means, in at most four times the work
-- of the meaning plus two steps.
abbrev pub DoesAsMeant : List Core → Core → List Instr → Type 0
DoesAsMeant R g code = (t : List ℕ) → all_scalars t ≡ true → (outcome R g t ≢ Open) × RunsAs code t (outcome R g t)

-- if the goal is a capture, or is a call of a rule whose body is one, its code is safe: no run of it lacks what it
-- needs, and each match is one tree
abbrev pub IsSafeIfCapture : List Core → Core → List Instr → Type 0
IsSafeIfCapture R g code = (label : List ℕ) → IsCapture R label g → IsSafe code

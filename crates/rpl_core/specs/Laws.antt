-- What holds of all patterns, codes and trees.
use Rattle.std.specs.Prelude.{◌≡◌, ◌≢◌, ℕ, ◌≤◌, List}
use Rattle.rpl_core.specs.Core.{Core}
use Rattle.rpl_core.specs.Forest.{Forest, flat}
use Rattle.rpl_core.specs.Meaning.{Open, peg}
use Rattle.rpl_core.specs.Instr.{Instr}
use Rattle.rpl_core.specs.Programs.{IsCode}
use Rattle.rpl_core.specs.Run.{Unfinished, run, EndsAs}

-- an outcome that isn't open is the same, with the same work, at every greater depth
abbrev pub DepthLaw : Type 0
DepthLaw =
    (m n : ℕ) (R : List Core) (t : List ℕ) (e : Core) (i : ℕ) →
    m ≤ n → peg m R t e i ≢ Open → peg n R t e i ≡ peg m R t e i

-- a run that has ended ends the same way with any bound that lets it make its steps, and with no smaller one
abbrev pub RunLaw : Type 0
RunLaw = (code : List Instr) (t : List ℕ) (b : ℕ) → run code t b ≢ Unfinished → EndsAs code t (run code t b)

-- a capture list is that of at most one list of trees
abbrev pub FlatLaw : Type 0
FlatLaw = (f g : Forest) → flat f ≡ flat g → f ≡ g

-- a goal has at most one code over a table
abbrev pub CodeLaw : Type 0
CodeLaw = (R : List Core) (g : Core) (c d : List Instr) → IsCode R g c → IsCode R g d → c ≡ d

-- and it has one
abbrev pub HasCodeLaw : Type 0
HasCodeLaw = (R : List Core) (g : Core) → (code : List Instr) × IsCode R g code

-- The laws of traces.
use Rattle.std.specs.Prelude.{◌≡◌, ◌≢◌, ℕ, List}
use Rattle.rpl_core.specs.Core.{Core}
use Rattle.rpl_core.specs.Meaning.{Open, peg}
use Rattle.rpl_core.specs.Outcome.{work_of}
use Rattle.rpl_trace.specs.Evaluations.{evaluations, count}

-- if an outcome isn't open, the number of its evaluations equals its work
abbrev pub CountLaw : Type 0
CountLaw =
    (n : ℕ) (R : List Core) (t : List ℕ) (e : Core) (i : ℕ) → peg n R t e i ≢ Open
    → count (evaluations n R t e i) ≡ work_of (peg n R t e i)

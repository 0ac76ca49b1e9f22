-- A run in which nothing goes wrong: which lines and inputs every limit allows.
use Rattle.std.specs.Prelude.{ℕ, ◌≡◌, Bool, true, false, List, ◌∷◌, ◌++◌, Option, None, Some}
use Rattle.std.specs.List.{All}
use Rattle.rosie_io.specs.Lines.{lines}
use Rattle.rosie_io.specs.Opening.{file_of}
use Rattle.rosie_run.specs.Inputs.{is_standard, reads_standard}
use Rattle.rosie_run.specs.Report.{has, is_stop, is_fault}
use Rattle.rosie_jobs.specs.Limits.{IsAllowed}
use Rattle.rosie_jobs.specs.Makers.{Maker}
use Rattle.rosie_suites.specs.Limits as T
use Rattle.rosie_cli.specs.Plans.{Plan, Says, Writes, Tries, RunsOnInputs, Samples, Replays}
use Rattle.rosie_jobs.specs.SampleLines.{sample}
use Rattle.rosie_session.specs.Replay.{replay}

-- an input that isn't missing, and whose lines are allowed
abbrev pub FileKeepsLimits : Maker → Bool → Option (List ℕ) → Type 0
FileKeepsLimits m whole None = ⊥
FileKeepsLimits m whole (Some bytes) = All (IsAllowed m) (lines whole bytes)

-- the standard input, where it is read, and each named file
pub record InputsKeepLimits (m : Maker) (whole : Bool) (names : List (List ℕ)) (tree : List (List ℕ × List ℕ))
    (input : List ℕ) : Type 0 where
  pub standard : reads_standard names ≡ true → All (IsAllowed m) (lines whole input)
  pub files : (front back : List (List ℕ)) (name : List ℕ) → names ≡ front ++ name ∷ back
      → is_standard name ≡ false → FileKeepsLimits m whole (file_of name tree)

-- a plan that refuses nothing and has an answer for each of its pieces, over tests and lines that every limit allows
abbrev pub KeepsLimits : Plan → List (List ℕ × List ℕ) → List ℕ → Type 0
KeepsLimits (Says ps) tree input = (has is_stop ps ≡ false) × (has is_fault ps ≡ false)
KeepsLimits (Writes bytes) tree input = Unit {0}
KeepsLimits (Tries b trials) tree input = T.AreAllowed b trials
KeepsLimits (RunsOnInputs m whole names) tree input = InputsKeepLimits m whole names tree input
KeepsLimits (Samples r) tree input = All (IsAllowed r.maker) (sample r.seed r.lines)
KeepsLimits (Replays w) tree input = has is_fault (replay w input) ≡ false

-- How far a run over a sample has come.
use Rattle.std.specs.Prelude.{◌≡◌, ◌-◌, ◌*◌, ◌≤◌, ◌∷◌, ◌++◌, ℕ, List, [], Option, Some, None, String, codes, length}
use Rattle.std.specs.Prelude.{map}
use Rattle.std.specs.Prelude.{false, string_bytes}
use Rattle.rosie_jobs.specs.Jobs.{matcher_of}
use Rattle.rosie_jobs.specs.Lines.{line_reading}
use Rattle.rosie_jobs.specs.Makers.{makes_of}
use Rattle.rosie_run.specs.Lines.{pieces_from}
use Rattle.rosie_run.specs.Report.{Piece, outs}
use Rattle.rpl_encode.specs.Answer.{max_answer_bytes}
use Rattle.rosie_jobs.specs.SampleCounts.{counts_piece, hits, muted}
use Rattle.rosie_jobs.specs.SampleLines.{sample}
use Rattle.rosie_jobs.specs.declared.sample_run.SampleRun.{SampleRun}

-- the counts stay far from the greatest number
pub record CountsFit (s : SampleRun) : Type 0 where
  pub within : s.passed ≤ s.lines
  pub matched : s.matched ≤ s.passed
  pub bytes : s.bytes ≤ max_answer_bytes * s.passed

-- the pieces of the lines to come, as they are without being muted
abbrev pub lines_left : SampleRun → List Piece
lines_left s =
    pieces_from (makes_of (matcher_of s.job)) (line_reading false) (codes "-") s.passed
    (sample s.sample.number (s.lines - s.passed))

-- `done` were passed and are counted; the others come muted, and then what all of them come to
pub record IsLeft (s : SampleRun) (ps : List Piece) : Type 0 where
  pub done : List Piece
  pub matched : s.matched ≡ hits done
  pub bytes : s.bytes ≡ length (outs done)
  pub is : ps ≡ map muted (lines_left s) ++ counts_piece s.lines (done ++ lines_left s) ∷ []

abbrev pub SameRun : SampleRun → SampleRun → Type 0
SameRun a b =
    (b.lines ≡ a.lines) × (b.text ≡ a.text) × (makes_of (matcher_of b.job) ≡ makes_of (matcher_of a.job))

abbrev pub ComesBy : {Z : Type 0} → Option (String Z) → SampleRun → List Piece → Type 0
ComesBy None s ps = IsLeft s ps
ComesBy (Some text) s ps = ps ≡ []

abbrev pub one_left : {Z : Type 0} → Option (String Z) → ℕ
one_left None = 1
one_left (Some text) = 0

abbrev pub said_out : {Z : Type 0} → Option (String Z) → List ℕ
said_out None = []
said_out (Some text) = string_bytes text

abbrev pub said_err : {Z : Type 0} → Option (String Z) → List ℕ → List ℕ
said_err None err = err
said_err (Some text) err = []

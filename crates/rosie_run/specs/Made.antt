-- The piece that a job makes for a line.
use Rattle.rosie_run.specs.Report.{Piece}
use Rattle.rosie_run.specs.declared.mark.Mark.{Mark}
use Rattle.std.specs.Prelude.{◌≡◌, List, ℕ}

-- they are those of the piece
pub record IsMade (mark : Mark) (out err : List ℕ) (p : Piece) : Type 0 where
  pub marks : mark ≡ p.mark
  pub writes : out ≡ p.out
  pub tells : err ≡ p.err

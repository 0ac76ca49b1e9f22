-- What the writes of a piece leave, part by part.
use Rattle.rosie_io.specs.Counts.{Rose}
use Rattle.rosie_run.specs.Going.{Going, How, WantsMemory}
use Rattle.rosie_run.specs.Report.{Piece}
use Rattle.rosie_run.specs.Runs.{WritesEnd}
use Rattle.rosie_run.specs.declared.ended.Ended.{Ended}
use Rattle.rosie_run.specs.declared.ended.Ended.TheVariants as E
use Rattle.rosie_run.specs.declared.piece_source.PieceSource.{Ghosts}
use Rattle.std.specs.Prelude.{◌≡◌, ◌≤◌, Err, List, Ok, Result, ℕ}

-- the run stands after the piece, or there was no memory for a part of it
abbrev pub how_of_break : Ended → How
how_of_break E.NoMemory = WantsMemory
how_of_break _ = Going

abbrev pub how_of_write : {A : Type 0} → Result A Ended → How
how_of_write (Ok _) = Going
how_of_write (Err e) = how_of_break e

-- the last piece's text for `out` was written, or a front of it: what the source still has to do is as it was
pub record KeepsPiece {S : Type 0} (P : Ghosts S) (how : How) (a b : S) : Type 0 where
  pub err_text : P.err_text b ≡ P.err_text a
  pub comes : (ps : List Piece) → P.comes a ps → P.comes b ps
  pub same : (s : S) → P.same s a → P.same s b
  pub left : (s : S) (k : ℕ) → P.leaves Going s a k → P.leaves how s b k
  pub goes_on : P.goes_on a → P.goes_on b
  pub tool : P.tool b ≡ P.tool a
  pub source_name : P.source_name b ≡ P.source_name a
  pub bound : P.bound b ≡ P.bound a

-- of one sink: a write fails only where its count of faults rose
abbrev pub WritesCause : {A : Type 0} → Result A Ended → ℕ → ℕ → Type 0
WritesCause (Err E.WriteFault) before now = (before ≤ now) × Rose before now
WritesCause _ before now = now ≡ before

-- and of both
abbrev pub BothWritesCause : {A : Type 0} → Result A Ended → ℕ → ℕ → ℕ → ℕ → Type 0
BothWritesCause (Ok _) out0 out1 err0 err1 = (out1 ≡ out0) × (err1 ≡ err0)
BothWritesCause (Err e) out0 out1 err0 err1 = WritesEnd e out0 out1 err0 err1

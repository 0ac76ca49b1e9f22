-- How a run over the lines of an input passes a line.
use Rattle.rosie_io.specs.declared.reader.Line.{Line}
use Rattle.rosie_io.specs.declared.reader.Line.TheVariants as L
use Rattle.rosie_io.specs.declared.reader.LineFault.{LineFault}
use Rattle.rosie_io.specs.declared.reader.LineFault.TheVariants as F
use Rattle.rosie_run.specs.Going.{OnPiece}
use Rattle.rosie_run.specs.Lines.{Makes, input_message, line_message}
use Rattle.rosie_run.specs.Made.{IsMade}
use Rattle.rosie_run.specs.Report.{Piece, fault_piece}
use Rattle.rosie_run.specs.declared.ended.Ended.{Ended}
use Rattle.rosie_run.specs.declared.ended.Ended.TheVariants as E
use Rattle.rosie_io.specs.declared.stop.ReadStop.{ReadStop}
use Rattle.rosie_io.specs.declared.stop.ReadStop.TheVariants as Y
use Rattle.rosie_run.specs.declared.lines.Messages.{Messages}
use Rattle.rosie_run.specs.declared.mark.Mark.{Mark}
use Rattle.rosie_run.specs.declared.tool.Tool.{Tool}
use Rattle.std.specs.Prelude.{◌+◌, ◌≡◌, ◌∷◌, Err, IsErrAnd, List, None, Ok, Option, Result, Some, String, [], codes}
use Rattle.std.specs.Prelude.{string_bytes, ℕ}

-- the texts of the last piece, by what is kept of a fault
abbrev pub kept_out : {Z : Type 0} → Option (String Z) → List ℕ → List ℕ
kept_out None out = out
kept_out (Some text) out = []

abbrev pub kept_err : {Z : Type 0} → Option (String Z) → List ℕ → List ℕ
kept_err None err = err
kept_err (Some text) err = string_bytes text

-- the line that says that a read of this input failed is made
abbrev pub IsPrepared : Messages → List ℕ → Type 0
IsPrepared m file = string_bytes m.read_failed ≡ input_message m.tool file (codes "read failed")

-- reading ended it, for this reason
abbrev pub IsStop : ReadStop → Ended → Type 0
IsStop why (E.Cut w text) = w ≡ why
IsStop why _ = ⊥

abbrev pub IsStopOrMemory : ReadStop → Ended → Type 0
IsStopOrMemory why E.NoMemory = Unit {0}
IsStopOrMemory why E.WriteFault = ⊥
IsStopOrMemory why (E.Cut w text) = w ≡ why

-- a line was passed whose piece is this, unless there is no memory for it
abbrev pub MakesPiece : Result (Option Mark) Ended → Piece → List ℕ → List ℕ → ℕ → ℕ → Type 0
MakesPiece (Ok (Some mark)) p out err steps0 steps1 = IsMade mark out err p × (steps1 ≡ steps0 + p.cost)
MakesPiece (Ok None) p out err steps0 steps1 = ⊥
MakesPiece (Err e) p out err steps0 steps1 = e ≡ E.NoMemory

abbrev pub SaysFault : LineFault → Result (Option Mark) Ended → Tool → (file : List ℕ) → List ℕ → List ℕ → ℕ → ℕ
    → Type 0
SaysFault (F.TooLong n) result tool file out err steps0 steps1 =
    MakesPiece result (fault_piece (line_message tool file n (codes "line too long"))) out err steps0 steps1
SaysFault (F.NotText n) result tool file out err steps0 steps1 =
    MakesPiece result (fault_piece (line_message tool file n (codes "not UTF-8"))) out err steps0 steps1
SaysFault F.NoMemory result tool file out err steps0 steps1 = result ≡ Err E.NoMemory
SaysFault (F.Stopped Y.ReadFault) result tool file out err steps0 steps1 =
    IsErrAnd result (IsStop Y.ReadFault) × (steps1 ≡ steps0)
SaysFault (F.Stopped Y.Spent) result tool file out err steps0 steps1 =
    IsErrAnd result (IsStopOrMemory Y.Spent) × (steps1 ≡ steps0)

-- what is made of the answer of the reader, with the number and the text of its line
abbrev pub MakesOf : Result Line LineFault → Result (Option Mark) Ended → Makes → Tool → (file : List ℕ) → ℕ
    → (line : List ℕ) → List ℕ → List ℕ → ℕ → ℕ → Type 0
MakesOf (Ok L.Text) result makes tool file n line out err steps0 steps1 =
    MakesPiece result (makes file n line) out err steps0 steps1
MakesOf (Ok L.End) result makes tool file n line out err steps0 steps1 = (result ≡ Ok None) × (steps1 ≡ steps0)
MakesOf (Err fault) result makes tool file n line out err steps0 steps1 =
    SaysFault fault result tool file out err steps0 steps1

-- what is said at the end: of the lines from this one on, or as before where no line of text was passed
abbrev pub SaysOf : Result Line LineFault → Result (Option Mark) Ended → (now old : List (List ℕ) → List ℕ)
    → (line : List ℕ) → Type 0
SaysOf (Ok L.Text) result now old line = OnPiece result ((more : List (List ℕ)) → now more ≡ old (line ∷ more))
SaysOf _ result now old line = now ≡ old

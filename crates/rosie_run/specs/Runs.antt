-- The result of running a command: the run reaches the end of its report, or stops early.
use Rattle.rosie_run.specs.declared.ended.Ended.TheVariants as E
use Rattle.rosie_run.specs.Lines.{input_message, stop_text}
use Rattle.rosie_run.specs.Outputs.{Fronts, Telling, Texts, Wrote}
use Rattle.rosie_run.specs.Report.{Piece, has, is_stop, up_to_stop}
use Rattle.rosie_run.specs.Tallies.{tally_of}
use Rattle.rosie_run.specs.declared.ended.Ended.{Ended}
use Rattle.rosie_io.specs.declared.stop.ReadStop.{ReadStop}
use Rattle.rosie_run.specs.declared.tally.Tally.{Tally}
use Rattle.std.specs.Prelude.{◌++◌, ◌≡◌, Err, List, Ok, Result, false, length, string_bytes, ℕ, ◌≤◌, ◌⊎◌}
use Rattle.rosie_io.specs.Counts.{Rose}
use Rattle.rosie_run.specs.Sources.{Moment, NoFewer, RoseIn, Still, TookMany}
use Rattle.rosie_io.specs.declared.stop.ReadStop.TheVariants as Y
use Rattle.rosie_run.specs.declared.tool.Tool.{Tool}

-- Reading ended a run: it had gone past the pieces `done`, none of which ends it, and just these are written. `text` is
-- the line that says so, and `Where` tells, of the reason, the name in that line and their number, where reading stood.
pub record CutShort (W : Telling) (all : List Piece) (Where : ReadStop → List ℕ → ℕ → Type 0) (why : ReadStop)
    (text : List ℕ)
    (a b : Texts) : Type 0 where
  pub file : List ℕ
  pub done : List Piece
  pub todo : List Piece
  pub split : all ≡ done ++ todo
  pub goes_on : has is_stop done ≡ false
  pub wrote : Wrote W done a b
  pub says : text ≡ input_message W.tool file (stop_text why)
  pub stood : Where why file (length done)

abbrev pub Breaks : Ended → Telling → List Piece → (ReadStop → List ℕ → ℕ → Type 0) → Texts → Texts → Type 0
Breaks (E.Cut why text) W all Where a b = CutShort W all Where why (string_bytes text) a b
Breaks _ W all Where a b = Fronts W (up_to_stop all) a b

-- all pieces up to one that ends the run are written, or it breaks off
abbrev pub Runs : Result Tally Ended → Telling → List Piece → (ReadStop → List ℕ → ℕ → Type 0) → Texts → Texts → Type 0
Runs (Ok tally) W all Where a b = Wrote W (up_to_stop all) a b × (tally ≡ tally_of (up_to_stop all))
Runs (Err ended) W all Where a b = Breaks ended W all Where a b

-- a line that says why reading ended the run, unless there is no memory for it
abbrev pub IsCutOf : Ended → Tool → ReadStop → List ℕ → Type 0
IsCutOf E.NoMemory tool why file = Unit {0}
IsCutOf E.WriteFault tool why file = ⊥
IsCutOf (E.Cut w text) tool why file = (w ≡ why) × (string_bytes text ≡ input_message tool file (stop_text why))

-- a run that wasn't ended by a piece
abbrev pub GoesOn : Result Tally Ended → Type 0 → Type 0
GoesOn (Ok tally) P = tally.stop ≡ false → P
GoesOn (Err e) P = Unit {0}

-- it wasn't reading that ended the run
abbrev pub IsNoCut : Ended → Type 0
IsNoCut (E.Cut why text) = ⊥
IsNoCut _ = Unit {0}

-- of the files
abbrev pub FilesEnd : Ended → Moment → Moment → Type 0
FilesEnd (E.Cut Y.ReadFault text) f0 f1 = NoFewer f0 f1 × RoseIn f0 f1
FilesEnd (E.Cut Y.Spent text) f0 f1 = Still f0 f1 × TookMany f0.taken f1.taken
FilesEnd _ f0 f1 = Still f0 f1

abbrev pub RunFilesCause : Result Tally Ended → Moment → Moment → Type 0
RunFilesCause (Ok _) f0 f1 = Still f0 f1
RunFilesCause (Err e) f0 f1 = FilesEnd e f0 f1

-- want of memory hides no failed read or open of the files
abbrev pub HidesNoRead : Result Tally Ended → Moment → Moment → Type 0
HidesNoRead (Err E.NoMemory) f0 f1 = Still f0 f1
HidesNoRead _ f0 f1 = Unit {0}

-- of the standard input and the files
abbrev pub SourcesEnd : Ended → Moment → Moment → Moment → Moment → Type 0
SourcesEnd E.NoMemory i0 i1 f0 f1 = Still i0 i1 × NoFewer f0 f1
SourcesEnd E.WriteFault i0 i1 f0 f1 = Still i0 i1 × Still f0 f1
SourcesEnd (E.Cut Y.ReadFault text) i0 i1 f0 f1 = NoFewer i0 i1 × NoFewer f0 f1 × (RoseIn i0 i1 ⊎ RoseIn f0 f1)
SourcesEnd (E.Cut Y.Spent text) i0 i1 f0 f1 =
    Still i0 i1 × Still f0 f1 × (TookMany i0.taken i1.taken ⊎ TookMany f0.taken f1.taken)

abbrev pub RunReadCause : Result Tally Ended → Moment → Moment → Moment → Moment → Type 0
RunReadCause (Ok _) i0 i1 f0 f1 = Still i0 i1 × Still f0 f1
RunReadCause (Err e) i0 i1 f0 f1 = SourcesEnd e i0 i1 f0 f1

-- of the two sinks
abbrev pub WritesEnd : Ended → ℕ → ℕ → ℕ → ℕ → Type 0
WritesEnd E.WriteFault out0 out1 err0 err1 = (out0 ≤ out1) × (err0 ≤ err1) × (Rose out0 out1 ⊎ Rose err0 err1)
WritesEnd _ out0 out1 err0 err1 = (out1 ≡ out0) × (err1 ≡ err0)

abbrev pub RunWriteCause : Result Tally Ended → ℕ → ℕ → ℕ → ℕ → Type 0
RunWriteCause (Ok _) out0 out1 err0 err1 = (out1 ≡ out0) × (err1 ≡ err0)
RunWriteCause (Err e) out0 out1 err0 err1 = WritesEnd e out0 out1 err0 err1

-- Where a run stands: of all its pieces it has gone past `done`, none of which ends it, and `todo` are still to come.
-- Just the pieces that it has gone past were added. Each clause on what a run leaves is read off this.
pub record Stands (T : Telling) (all done todo : List Piece) (a b : Texts) (tally : Tally) : Type 0 where
  pub split : all ≡ done ++ todo
  pub goes_on : has is_stop done ≡ false
  pub wrote : Wrote T done a b
  pub comes_to : tally ≡ tally_of done

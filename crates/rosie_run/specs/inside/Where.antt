-- What the run over one input leaves, and where reading stood when it ended the run.
use Rattle.rosie_io.specs.Opening.{file_of}
use Rattle.rosie_run.specs.Course.{Course}
use Rattle.rosie_run.specs.Inputs.{file_pieces, is_standard, one_pieces}
use Rattle.rosie_run.specs.Lines.{Makes, input_pieces}
use Rattle.rosie_run.specs.Runs.{Runs}
use Rattle.rosie_run.specs.Sources.{Moment, Span}
use Rattle.rosie_run.specs.declared.ended.Ended.{Ended}
use Rattle.rosie_io.specs.declared.stop.ReadStop.{ReadStop}
use Rattle.rosie_run.specs.declared.lines.Reading.{Reading}
use Rattle.rosie_run.specs.declared.tally.Tally.{Tally}
use Rattle.std.specs.Prelude.{◌≡◌, Bool, List, Result, [], false, true, ℕ}
use Rattle.rosie_run.specs.Where.{InFile, InNamed}
use Rattle.rosie_run.specs.inside.Showing.{Showing}

abbrev pub InFileNamed : List ℕ → List (List ℕ × List ℕ) → Bool → Moment → Moment → ReadStop → List ℕ → ℕ → Type 0
InFileNamed name tree whole f0 f1 why file k = (file ≡ name) × InFile tree whole f0 f1 why file k

-- and in one input: the standard input, which was not read before, or a file
pub data InOne (name : List ℕ) (read : Bool) (tree : List (List ℕ × List ℕ)) (whole : Bool) (i0 i1 f0 f1 : Moment)
    (why : ReadStop) (file : List ℕ) (k : ℕ) : Type 0 where
  of_standard : is_standard name ≡ true → read ≡ false → InNamed name whole i0 i1 why file k
      → InOne name read tree whole i0 i1 f0 f1 why file k
  of_file : is_standard name ≡ false → InFileNamed name tree whole f0 f1 why file k
      → InOne name read tree whole i0 i1 f0 f1 why file k

-- the run over a source that goes by this name: its pieces are written, or it breaks off
abbrev pub RunsSource : Result Tally Ended → Makes → Reading → List ℕ → Span → Showing → Type 0
RunsSource result makes r file source w =
    Runs result w.tells (input_pieces makes r file source.before.rest)
    (InNamed file r.whole source.before source.after) w.before w.after

-- the run over a file: its pieces are written, or it breaks off
abbrev pub RunsFile : Result Tally Ended → Makes → Reading → List ℕ → List (List ℕ × List ℕ) → Span → Showing → Type 0
RunsFile result makes r path tree files w =
    Runs result w.tells (file_pieces makes r path (file_of path tree))
    (InFileNamed path tree r.whole files.before files.after) w.before w.after

-- the run over one input, where that is told; nothing is left of a standard input that was read before
abbrev pub RunsOne : Result Tally Ended → Makes → Reading → (name : List ℕ) → (read : Bool) → Course → Type 0
RunsOne result makes r name read c =
    (is_standard name ≡ false → c.files_tell) → (is_standard name ≡ true → c.input_tells)
    → (read ≡ true → c.input.before.rest ≡ [])
    → Runs result c.tells (one_pieces makes r c.tree c.input.before.rest name)
    (InOne name read c.tree r.whole c.input.before c.input.after c.files.before c.files.after) c.before c.after

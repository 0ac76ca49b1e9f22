-- What the result of a run says about its report.
use Rattle.rosie_io.specs.declared.stop.ReadStop.TheVariants as Y
use Rattle.rosie_io.specs.Counts.{Rose, capped}
use Rattle.rosie_io.specs.Opening.{file_of}
use Rattle.rosie_run.specs.Inputs.{is_standard, reads_standard}
use Rattle.rosie_run.specs.Lines.{input_message, stop_text}
use Rattle.rosie_run.specs.Outputs.{Failures, Fronts, IsFront, Telling, Texts, Wrote}
use Rattle.rosie_run.specs.Report.{Piece, costs, errs, has, is_hit, is_stop, outs, status_of}
use Rattle.rosie_run.specs.Sources.{RoseIn, Span}
use Rattle.rosie_io.specs.declared.stop.ReadStop.{ReadStop}
use Rattle.rosie_run.specs.declared.status.Status.TheVariants.{Matched, NoMatch, LineFault, ReadFault}
use Rattle.rosie_run.specs.declared.status.Status.TheVariants.{WriteFault, NoMemory, Spent}
use Rattle.rosie_run.specs.declared.status.Status.{Status}
use Rattle.std.specs.Prelude.{◌++◌, ◌+◌, ◌<◌, ◌^◌, ◌∷◌, ◌≡◌, ◌≤◌, List, Some, false, length, take, true, ℕ}

-- all is as the report has it: the status, the texts and the steps
pub record Reported (W : Telling) (ps : List Piece) (answer : Status) (a b : Texts) : Type 0 where
  pub status : answer ≡ status_of ps
  pub wrote : Wrote W ps a b

-- the run went past the first k pieces, and none of them ends it
pub record IsBehind (ps : List Piece) (k : ℕ) : Type 0 where
  pub within : k ≤ length ps
  pub goes_on : has is_stop (take k ps) ≡ false

-- reading ended the run: the first pieces are written, and the line that says so
pub record Left (W : Telling) (ps : List Piece) (Where : ReadStop → List ℕ → ℕ → Type 0) (why : ReadStop)
    (a b : Texts) : Type 0 where
  pub file : List ℕ
  pub k : ℕ
  pub behind : IsBehind ps k
  pub stood : Where why file k
  pub out : W.out → b.out ≡ a.out ++ outs (take k ps)
  pub err : W.err → b.err ≡ a.err ++ (errs (take k ps) ++ input_message W.tool file (stop_text why))
  pub number : W.counts → b.number ≡ capped (a.number + length (outs (take k ps)))
  pub steps : b.steps ≡ a.steps + costs (take k ps)

-- a write or a flush failed: each output has a front of its text, or of what is left where reading ended the run
pub data WriteFailed (W : Telling) (ps : List Piece) (Where : ReadStop → List ℕ → ℕ → Type 0) (a b : Texts)
    : Type 0 where
  in_the_run : Fronts W ps a b → WriteFailed W ps Where a b
  at_the_end : (why : ReadStop) (file : List ℕ) (k : ℕ) → IsBehind ps k → Where why file k
      → (W.out → IsFront a.out b.out (outs (take k ps)))
      → (W.err → IsFront a.err b.err (errs (take k ps) ++ input_message W.tool file (stop_text why)))
      → WriteFailed W ps Where a b

-- what a result says about the report
abbrev pub Headline : Status → Telling → List Piece → (ReadStop → List ℕ → ℕ → Type 0) → Texts → Texts → Type 0
Headline ReadFault W ps Where a b = Left W ps Where Y.ReadFault a b
Headline Spent W ps Where a b = Left W ps Where Y.Spent a b
Headline WriteFault W ps Where a b = WriteFailed W ps Where a b
Headline NoMemory W ps Where a b = Fronts W ps a b
Headline answer W ps Where a b = Reported W ps answer a b

-- the run reached the end of its inputs
abbrev pub CameToEnd : Status → Type 0
CameToEnd Matched = Unit {0}
CameToEnd NoMatch = Unit {0}
CameToEnd LineFault = Unit {0}
CameToEnd _ = ⊥

-- where nothing goes wrong: some piece is a hit, or none, or memory ran out
abbrev pub IsComplete : Status → List Piece → Type 0
IsComplete Matched ps = has is_hit ps ≡ true
IsComplete NoMatch ps = has is_hit ps ≡ false
IsComplete NoMemory ps = Unit {0}
IsComplete _ ps = ⊥

-- every file of these names has fewer bytes than are read; the name of the standard input is that of no file
abbrev pub AreShort : List (List ℕ) → List (List ℕ × List ℕ) → Type 0
AreShort names tree =
    (front back : List (List ℕ)) (path bytes : List ℕ) → names ≡ front ++ path ∷ back → is_standard path ≡ false
    → file_of path tree ≡ Some bytes → length bytes < 2 ^ 32

-- no read and no write goes wrong, and each of the inputs has fewer bytes than are read
pub record NothingFails (names : List (List ℕ)) (tree : List (List ℕ × List ℕ)) (input files : Span)
    (old new : Failures) : Type 0 where
  pub input_reads : RoseIn input.before input.after → ⊥
  pub files_read : RoseIn files.before files.after → ⊥
  pub out_writes : Rose old.out new.out → ⊥
  pub err_writes : Rose old.err new.err → ⊥
  pub input_short : reads_standard names ≡ true → length input.before.rest < 2 ^ 32
  pub files_short : AreShort names tree

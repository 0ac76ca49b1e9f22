-- How a run moves from piece to piece, and what its result says about that.
use Rattle.rosie_run.specs.Lines.{input_message, stop_text}
use Rattle.rosie_run.specs.Made.{IsMade}
use Rattle.rosie_run.specs.Report.{Piece, is_stop}
use Rattle.rosie_run.specs.declared.ended.Ended.{Ended}
use Rattle.rosie_run.specs.declared.ended.Ended.TheVariants as E
use Rattle.rosie_io.specs.declared.stop.ReadStop.{ReadStop}
use Rattle.rosie_run.specs.declared.mark.Mark.{Mark}
use Rattle.rosie_run.specs.declared.tally.Tally.{Tally}
use Rattle.rosie_run.specs.declared.tool.Tool.{Tool}
use Rattle.std.specs.Prelude.{◌≡◌, ◌+◌, ◌∷◌, ℕ, List, [], Option, Some, None, Result, Ok, Err, string_bytes, true}
use Rattle.std.specs.Prelude.{Bool, false}

-- a run stands after the piece that was made last, or there was no further one, or there was no memory for it, or
-- reading ended the run
pub data How : Type 0 where
  Going : How
  AtEnd : How
  WantsMemory : How
  CutBy : (why : ReadStop) → How

abbrev pub end_of : Ended → How
end_of (E.Cut why text) = CutBy why
end_of _ = WantsMemory

-- by the answer of `next`, with the number of the pieces
abbrev pub how_of : Result (Option Mark) Ended → How
how_of (Ok (Some mark)) = Going
how_of (Ok None) = AtEnd
how_of (Err ended) = end_of ended

-- and by the answer of `next_part`
abbrev pub how_of_part : {E : Type 0} → Result Bool E → How
how_of_part (Ok made) = Going
how_of_part (Err e) = WantsMemory

abbrev pub count_of : Result (Option Mark) Ended → ℕ → ℕ
count_of (Ok (Some mark)) k = k + 1
count_of _ k = k

abbrev pub OnPiece : Result (Option Mark) Ended → Type 0 → Type 0
OnPiece (Ok (Some mark)) P = P
OnPiece _ P = Unit {0}

-- the piece doesn't end the run
abbrev pub IsNoStop : Result (Option Mark) Ended → Type 0
IsNoStop (Ok (Some mark)) = is_stop mark ≡ false
IsNoStop _ = Unit {0}

-- no write ends it, and where reading does the text says so, of what goes by this name
abbrev pub IsSaidBy : Tool → List ℕ → Ended → Type 0
IsSaidBy tool name E.NoMemory = Unit {0}
IsSaidBy tool name E.WriteFault = ⊥
IsSaidBy tool name (E.Cut why text) = string_bytes text ≡ input_message tool name (stop_text why)

-- where reading ended the run the text says so, of what goes by this name
abbrev pub CutSays : Tool → List ℕ → Ended → Type 0
CutSays tool name (E.Cut why text) = string_bytes text ≡ input_message tool name (stop_text why)
CutSays tool name _ = Unit {0}

-- where reading ends the run nothing is run
abbrev pub ReadsOn : Ended → ℕ → ℕ → Type 0
ReadsOn (E.Cut why text) steps0 steps1 = steps1 ≡ steps0
ReadsOn _ steps0 steps1 = Unit {0}

-- the first of the pieces that were to come is made, and those after it are to come
pub record GivesPiece (ps : List Piece) (Comes : List Piece → Type 0) (mark : Mark) (out err : List ℕ)
    (steps0 steps1 : ℕ) : Type 0 where
  pub piece : Piece
  pub more : List Piece
  pub is : ps ≡ piece ∷ more
  pub made : IsMade mark out err piece
  pub steps : steps1 ≡ steps0 + piece.cost
  pub comes : Comes more

abbrev pub Gives : Result (Option Mark) Ended → List Piece → (List Piece → Type 0) → List ℕ → List ℕ → ℕ → ℕ → Type 0
Gives (Ok (Some mark)) ps Comes out err steps0 steps1 = GivesPiece ps Comes mark out err steps0 steps1
Gives (Ok None) ps Comes out err steps0 steps1 = (ps ≡ []) × (steps1 ≡ steps0)
Gives (Err ended) ps Comes out err steps0 steps1 = ReadsOn ended steps0 steps1

-- what a source leaves that reads nothing: reading never ends its run
abbrev pub NeverReads : How → Type 0
NeverReads (CutBy why) = ⊥
NeverReads _ = Unit {0}

-- where reading stood, by what is left: after so many pieces, in what goes by this name
abbrev pub StoodAt : (How → ℕ → Type 0) → List ℕ → ReadStop → List ℕ → ℕ → Type 0
StoodAt Leaves name why file k = (file ≡ name) × Leaves (CutBy why) k

-- what the run over pieces leaves, by its answer, after some number of them
abbrev pub LeavesEnd : Ended → (How → ℕ → Type 0) → Type 0
LeavesEnd E.NoMemory Leaves = (k : ℕ) × Leaves WantsMemory k
LeavesEnd E.WriteFault Leaves = (k : ℕ) × Leaves Going k
LeavesEnd (E.Cut why text) Leaves = (k : ℕ) × Leaves (CutBy why) k

abbrev pub LeavesRun : Result Tally Ended → (How → ℕ → Type 0) → Type 0
LeavesRun (Ok tally) Leaves =
    (k : ℕ) × (tally.stop ≡ true → Leaves Going k) × (tally.stop ≡ false → Leaves AtEnd k)
LeavesRun (Err ended) Leaves = LeavesEnd ended Leaves

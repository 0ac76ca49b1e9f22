-- Which paths a run over inputs asks to be opened.
use Rattle.rosie_run.specs.Course.{Course}
use Rattle.rosie_run.specs.Going.{CutSays}
use Rattle.rosie_run.specs.Inputs.{AreTold, inputs_pieces, is_standard}
use Rattle.rosie_run.specs.Lines.{Makes}
use Rattle.rosie_run.specs.Report.{has, is_stop}
use Rattle.rosie_run.specs.Runs.{GoesOn}
use Rattle.rosie_run.specs.declared.ended.Ended.{Ended}
use Rattle.rosie_run.specs.declared.ended.Ended.TheVariants as E
use Rattle.rosie_run.specs.declared.lines.Reading.{Reading}
use Rattle.rosie_run.specs.declared.tally.Tally.{Tally}
use Rattle.rosie_run.specs.declared.tool.Tool.{Tool}
use Rattle.std.specs.List.{filter}
use Rattle.std.specs.Prelude.{◌++◌, ◌∷◌, ◌≡◌, ◌⊎◌, Err, IfErr, IfOk, List, Result, [], false, not, true, ℕ}

-- the files among the inputs with these names: all but the standard input
abbrev pub files_among : List (List ℕ) → List (List ℕ)
files_among names = filter (λ name. not (is_standard name)) names

-- these paths were asked for in turn, or memory ran out before any of them was
abbrev pub AsksFor : List (List ℕ) → Result Tally Ended → List (List ℕ) → List (List ℕ) → Type 0
AsksFor paths (Err E.NoMemory) asked0 asked1 = (asked1 ≡ asked0 ++ paths) ⊎ (asked1 ≡ asked0)
AsksFor paths _ asked0 asked1 = asked1 ≡ asked0 ++ paths

-- if reading ended the run, it did so in the last of these inputs, and the line that says so names it
abbrev pub CutInLast : Tool → List (List ℕ) → Ended → Type 0
CutInLast tool front (E.Cut why text) =
    (before : List (List ℕ)) × (last : List ℕ) × (front ≡ before ++ last ∷ []) × CutSays tool last (E.Cut why text)
CutInLast tool front _ = Unit {0}

-- A run over the inputs with these names asked for the files of `front` alone, each once and in order. Those are all of
-- them unless the run ended early, and reading can have ended it only in the last of them. Where the devices tell, no
-- piece of the inputs before the last ended it, and where a piece ended it, it is one of those of `front`.
pub record AsksInputs (result : Result Tally Ended) (makes : Makes) (r : Reading) (names : List (List ℕ)) (c : Course)
    (asked0 asked1 : List (List ℕ)) : Type 0 where
  pub front : List (List ℕ)
  pub back : List (List ℕ)
  pub split : names ≡ front ++ back
  pub asked : asked1 ≡ asked0 ++ files_among front
  pub all : GoesOn result (back ≡ [])
  pub cut : IfErr result (CutInLast r.tool front)
  pub goes_on : AreTold names c.files_tell c.input_tells → (before : List (List ℕ)) (last : List ℕ)
      → front ≡ before ++ last ∷ [] → has is_stop (inputs_pieces makes r c.tree c.input.before.rest before) ≡ false
  pub ended : AreTold names c.files_tell c.input_tells → IfOk result (λ tally.
      tally.stop ≡ true → has is_stop (inputs_pieces makes r c.tree c.input.before.rest front) ≡ true)

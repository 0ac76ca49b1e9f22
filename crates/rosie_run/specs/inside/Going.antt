-- How far a run over pieces has come, and one over several inputs.
use Rattle.rosie_run.specs.Asked.{files_among}
use Rattle.rosie_run.specs.Outputs.{Telling, Texts}
use Rattle.rosie_run.specs.Report.{Piece}
use Rattle.rosie_run.specs.Runs.{Stands}
use Rattle.rosie_run.specs.declared.tally.Tally.{Tally}
use Rattle.std.specs.Prelude.{◌≡◌, List, length, ℕ, ◌++◌, Bool, ◌∷◌, []}
use Rattle.rosie_run.specs.Inputs.{inputs_pieces, reads_standard, left_after}
use Rattle.rosie_run.specs.Lines.{Makes}
use Rattle.rosie_run.specs.declared.lines.Reading.{Reading}

-- k of the pieces were made, and just these are written
pub record Went (W : Telling) (all : List Piece) (Comes : List Piece → Type 0) (k : ℕ) (tally : Tally) (a b : Texts)
    : Type 0 where
  pub done : List Piece
  pub todo : List Piece
  pub comes : Comes todo
  pub stands : Stands W all done todo a b tally
  pub count : length done ≡ k

-- what is left of the standard input after some inputs
unfoldable pub left_all : List (List ℕ) → List ℕ → List ℕ
left_all [] left = left
left_all (name ∷ more) left = left_all more (left_after name left)

-- the files of the inputs of `front` were asked for, and the inputs of `back` are still to come
pub record Asked (names back asked0 asked1 : List (List ℕ)) : Type 0 where
  pub front : List (List ℕ)
  pub split : names ≡ front ++ back
  pub asked : asked1 ≡ asked0 ++ files_among front

-- the inputs of `front` were passed, those of `back` are still to come, and so much is left of the standard input
pub record Reached (W : Telling) (makes : Makes) (r : Reading) (tree : List (List ℕ × List ℕ)) (input left : List ℕ)
    (names back : List (List ℕ)) (read : Bool) (tally : Tally) (a b : Texts) : Type 0 where
  pub front : List (List ℕ)
  pub split : names ≡ front ++ back
  pub leaves : left ≡ left_all front input
  pub reads : reads_standard front ≡ read
  pub stands : Stands W (inputs_pieces makes r tree input names)
      (inputs_pieces makes r tree input front) (inputs_pieces makes r tree left back) a b tally

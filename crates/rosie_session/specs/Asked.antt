-- Which paths a session asks to be opened.
use Rattle.std.specs.Prelude.{◌≡◌, ◌++◌, ◌∷◌, ◌⊎◌, ℕ, List, [], length, Result, Ok, Err, codes, string_bytes}
use Rattle.rosie_io.specs.declared.stop.ReadStop.{ReadStop}
use Rattle.rosie_io.specs.declared.stop.ReadStop.TheVariants.{ReadFault}
use Rattle.rosie_run.specs.Course.{Course}
use Rattle.rosie_run.specs.Outputs.{Telling, Texts}
use Rattle.rosie_run.specs.Runs.{CutShort}
use Rattle.rosie_run.specs.declared.ended.Ended.{Ended}
use Rattle.rosie_run.specs.declared.ended.Ended.TheVariants as E
use Rattle.rosie_run.specs.declared.tally.Tally.{Tally}
use Rattle.rpl_package.specs.Asking.{EndsWith, IsFront, IsTold}
use Rattle.rosie_session.specs.Loading.{IsLoading, Loading}
use Rattle.rosie_session.specs.Replay.{Turn, asked_by, asked_in, pieces_of, turns}

-- the paths that the first of these turns asks for
abbrev pub of_next : List Turn → List (List ℕ)
of_next [] = []
of_next (t ∷ more) = t.asked

-- The paths of the first k of these turns were asked for, in order, and then `last`, a front of those of the next turn.
pub record AsksTurns (all : List Turn) (asked0 asked1 : List (List ℕ)) (k : ℕ) (last : List (List ℕ)) : Type 0 where
  pub passed : List Turn
  pub more : List Turn
  pub split : all ≡ passed ++ more
  pub count : length passed ≡ k
  pub asked : asked1 ≡ asked0 ++ (asked_by passed ++ last)
  pub front : IsFront last (of_next more)

-- reading ended a session: in the standard input, between two turns, or in the file that was asked for last
abbrev pub StopsIn : ReadStop → (file : List ℕ) → (last : List (List ℕ)) → Type 0
StopsIn why file last = ((file ≡ codes "-") × (last ≡ [])) ⊎ ((why ≡ ReadFault) × EndsWith file last)

-- and it had passed k turns then
abbrev pub AsksTill : (all : List Turn) → (asked0 asked1 : List (List ℕ)) → ReadStop → (file : List ℕ) → ℕ → Type 0
AsksTill all asked0 asked1 why file k =
    (last : List (List ℕ)) × StopsIn why file last × AsksTurns all asked0 asked1 k last

-- A session that comes to its end asked for the paths of all its turns. Memory may run out within a turn, and a write
-- fails after one. Where reading ended the run, it had passed as many turns as pieces are written, and the file that
-- the line names is the path that was asked for last, unless it is the standard input.
abbrev pub AsksRun : Result Tally Ended → Telling → (all : List Turn) → (asked0 asked1 : List (List ℕ)) → Texts → Texts
    → Type 0
AsksRun (Ok tally) W all asked0 asked1 a b = asked1 ≡ asked0 ++ asked_by all
AsksRun (Err E.NoMemory) W all asked0 asked1 a b =
    (k : ℕ) × (last : List (List ℕ)) × AsksTurns all asked0 asked1 k last
AsksRun (Err E.WriteFault) W all asked0 asked1 a b = (k : ℕ) × AsksTurns all asked0 asked1 k []
AsksRun (Err (E.Cut why text)) W all asked0 asked1 a b =
    CutShort W (pieces_of all) (AsksTill all asked0 asked1) why (string_bytes text) a b

-- so by the turns over the input, where the input tells, and the files tell or no line asks for a path
abbrev pub AsksSession : Result Tally Ended → (folders : List (List ℕ)) → Course → (asked0 asked1 : List (List ℕ))
    → Type 0
AsksSession result folders c asked0 asked1 =
    c.input_tells → (w : Loading) → IsLoading c.tree folders w
    → IsTold c.files_tell (asked_in w c.input.before.rest)
    → AsksRun result c.tells (turns w c.input.before.rest) asked0 asked1 c.before c.after

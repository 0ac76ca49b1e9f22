-- The result of running a session.
use Rattle.std.specs.Prelude.{List, Result, ℕ}
use Rattle.rosie_run.specs.Course.{Course}
use Rattle.rosie_run.specs.Runs.{Runs}
use Rattle.rosie_run.specs.declared.ended.Ended.{Ended}
use Rattle.rosie_run.specs.declared.tally.Tally.{Tally}
use Rattle.rpl_package.specs.Asking.{IsTold}
use Rattle.rosie_session.specs.Loading.{IsLoading, Loading}
use Rattle.rosie_session.specs.Replay.{asked_in, replay}
use Rattle.rosie_session.specs.Where.{InSession}

-- what is said to each line of a session is written, or the run breaks off, where the input tells, and the files tell
-- or no line asks for a path
abbrev pub RunsSession : Result Tally Ended → (folders : List (List ℕ)) → Course → Type 0
RunsSession result folders c =
    c.input_tells → (w : Loading) → IsLoading c.tree folders w
    → IsTold c.files_tell (asked_in w c.input.before.rest)
    → Runs result c.tells (replay w c.input.before.rest)
    (InSession w c.input.before.rest c.input.before c.input.after c.files.before c.files.after) c.before c.after

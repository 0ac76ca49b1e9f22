-- What is promised for each line that is tried.
use Rattle.std.specs.Prelude.{◌≡◌, ℕ, List, Ok}
use Rattle.rosie_jobs.specs.Budgets.{PaysFor}
use Rattle.rosie_jobs.specs.Lines.{Job}
use Rattle.rosie_session.specs.Loading.{Loading}
use Rattle.rosie_session.specs.Replay.{plain}

-- it exceeds its budget only if two more than four times the work of its meaning is more, whatever is kept by then
abbrev pub SessionPays : Loading → Type 0
SessionPays w =
    (texts : List (List ℕ)) (pattern : List ℕ) (job : Job) → (w.goal texts pattern).answer ≡ Ok job → PaysFor plain job

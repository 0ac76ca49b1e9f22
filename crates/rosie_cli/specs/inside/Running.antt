-- How contracts see the run of a plan.
use Rattle.std.specs.Prelude.{◌≡◌, ◌⊎◌, ℕ, false, true, List, [], Result, Ok, Err, string_bytes}
use Rattle.rosie_io.specs.declared.outside.Sink as K
use Rattle.rosie_io.specs.declared.outside.Source as S
use Rattle.rosie_prepare.specs.Prepared.{Tree}
use Rattle.rosie_run.specs.Course.{Course}
use Rattle.rosie_run.specs.Lines.{input_message, stop_text}
use Rattle.rosie_run.specs.Runs.{Runs}
use Rattle.rosie_run.specs.Sources.{Span, Still}
use Rattle.rosie_run.specs.declared.ended.Ended.{Ended}
use Rattle.rosie_run.specs.declared.ended.Ended.TheVariants as E
use Rattle.rosie_run.specs.declared.inputs.Inputs.{Inputs}
use Rattle.rosie_run.specs.declared.outputs.Outputs.{Outputs}
use Rattle.rosie_run.specs.declared.status.Status.{Status}
use Rattle.rosie_run.specs.declared.tally.Tally.{Tally}
use Rattle.rosie_run.specs.declared.tool.Tool.{Tool}
use Rattle.rosie_words.specs.declared.command.Command.{Command}
use Rattle.rpl_package.specs.Asking.{IsFront, IsTold}
use Rattle.rosie_cli.specs.Opened.{CameTo, EndsIn, OnTheWay, with_files}
use Rattle.rosie_cli.specs.Planned.{IsPlannedAs}
use Rattle.rosie_cli.specs.Plans.{Plan, Planned, among, pieces, stood, KnowsInputs}
use Rattle.rosie_cli.specs.Rosie.{Call, call}

-- the call whose inputs and outputs are these before and after
abbrev pub call_over :
    {F I O E L : Type 0} → (comes : Planned → Type 0) → S.Ghosts F → S.Ghosts I → K.Ghosts O
    → K.Ghosts E → Inputs F I → Inputs F I → Outputs O E L → Outputs O E L → Status → Call
call_over comes F I O E i i' o o' answer =
    call comes F I O E i.files.now i'.files.now i.input.now i'.input.now o.out.now o'.out.now o.err.now o'.err.now
    o.steps.now o'.steps.now answer

-- the pieces of a plan are written, or the run breaks off, where what is read for it is told
abbrev pub RunsPlan : Result Tally Ended → Plan → Course → Type 0
RunsPlan result plan c =
    KnowsInputs plan c.files_tell c.input_tells c.input.before.rest
    → Runs result c.tells (pieces plan c.tree c.input.before.rest) (among plan c.tree c.input c.files) c.before c.after

-- and so with its planning
abbrev pub RunsPlanned : Result Tally Ended → Course → Planned → Type 0
RunsPlanned result c p =
    KnowsInputs p.plan c.files_tell c.input_tells c.input.before.rest
    → Runs result c.tells (pieces p.plan c.tree c.input.before.rest) (stood p c.tree c.input c.files) c.before c.after

-- it holds of each plan that a command comes to, where the files tell or it asks for no path on the way
abbrev pub OfPlans : Command → (files : Type 0) → Tree → (Planned → Type 0) → Type 0
OfPlans c files tree Holds = (p : Planned) → IsTold files p.asked → IsPlannedAs c c.what tree p → Holds p

-- which paths a run asked for that came to the inputs `front` and left out `back`, by how it ended
abbrev pub AskedTo : Result Tally Ended → Tool → Planned → (front back paths : List (List ℕ)) → Type 0
AskedTo (Ok tally) tool p front back paths = (tally.stop ≡ false → back ≡ []) × (paths ≡ with_files p front)
AskedTo (Err (E.Cut why text)) tool p front back paths =
    (file : List ℕ) × EndsIn why p front file paths × (string_bytes text ≡ input_message tool file (stop_text why))
AskedTo (Err _) tool p front back paths = IsFront paths (with_files p front)

-- a piece ended the run
abbrev pub IsStopped : Result Tally Ended → Type 0
IsStopped (Ok tally) = tally.stop ≡ true
IsStopped (Err ended) = ⊥

-- the paths that were asked to be opened before a run, and those after it
abbrev pub RunAsked : Result Tally Ended → Course → Planned → (before now : List (List ℕ)) → Type 0
RunAsked result c p before now = CameTo (IsStopped result) (AskedTo result c.tells.tool p) c p before now

-- want of memory hides no failed read of an input
abbrev pub RunHidesNoRead : Result Tally Ended → (files : Span) → Planned → (before now : List (List ℕ)) → Type 0
RunHidesNoRead (Err E.NoMemory) files p before now = Still files.before files.after ⊎ OnTheWay p before now
RunHidesNoRead _ files p before now = Unit {0}

-- the plan without the paths on the way to it
abbrev pub alone : Plan → Planned
alone plan = record { asked = []; plan = plan }

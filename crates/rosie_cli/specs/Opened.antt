-- Which paths a call asked to be opened: those on the way to its plan, and then the files among its inputs, in order
-- and each as often as it is named there. A session asks for the paths of its lines, as they come.
use Rattle.std.specs.Prelude.{◌≡◌, ◌++◌, ◌∷◌, ◌⊎◌, ℕ, false, true, List, []}
use Rattle.rosie_io.specs.declared.stop.ReadStop.{ReadStop}
use Rattle.rosie_io.specs.declared.stop.ReadStop.TheVariants as Y
use Rattle.rosie_run.specs.Asked.{files_among}
use Rattle.rosie_run.specs.Course.{Course}
use Rattle.rosie_run.specs.Headline.{Left}
use Rattle.rosie_run.specs.Lines.{input_message, stop_text}
use Rattle.rosie_run.specs.Report.{has, is_stop}
use Rattle.rosie_run.specs.Sources.{Span, Still}
use Rattle.rosie_run.specs.declared.status.Status.{Status}
use Rattle.rosie_run.specs.declared.status.Status.TheVariants.{NoMemory, ReadFault, Refused, Spent, WriteFault}
use Rattle.rpl_package.specs.Asking.{EndsWith, IsFront}
use Rattle.rosie_session.specs.Asked.{AsksTill, AsksTurns}
use Rattle.rosie_session.specs.Loading.{Loading}
use Rattle.rosie_session.specs.Replay.{asked_in, turns}
use Rattle.rosie_cli.specs.Plans.{KnowsInputs, Plan, Planned, Replays, RunsOnInputs, inputs_of, pieces, report}

-- the paths on the way to a plan, and then the files among these inputs
abbrev pub with_files : Planned → (front : List (List ℕ)) → List (List ℕ)
with_files p front = p.asked ++ files_among front

-- the same plan over other inputs
abbrev pub over_inputs : Plan → List (List ℕ) → Plan
over_inputs (RunsOnInputs m whole names) others = RunsOnInputs m whole others
over_inputs plan others = plan

-- no piece of these inputs ends the report, if what is read for the plan is told
abbrev pub GoesPast : Course → Plan → List (List ℕ) → Type 0
GoesPast c plan names =
    KnowsInputs plan c.files_tell c.input_tells c.input.before.rest
    → has is_stop (pieces (over_inputs plan names) c.tree c.input.before.rest) ≡ false

-- a plan that runs on inputs
abbrev pub IsOverInputs : Plan → Type 0
IsOverInputs (RunsOnInputs m whole names) = Unit {0}
IsOverInputs _ = ⊥

-- a piece of these inputs ends the report of such a plan, if what is read for it is told
abbrev pub EndsAmong : Course → Plan → List (List ℕ) → Type 0
EndsAmong c plan names =
    IsOverInputs plan → KnowsInputs plan c.files_tell c.input_tells c.input.before.rest
    → has is_stop (pieces (over_inputs plan names) c.tree c.input.before.rest) ≡ true

-- Reading ended a run in this file: the last path that was asked for on the way to the plan, or the last of the inputs
-- that it came to. That may be the standard input, for which no path is asked.
pub data EndsIn (why : ReadStop) (p : Planned) (front : List (List ℕ)) (file : List ℕ) (paths : List (List ℕ))
    : Type 0 where
  in_loading : why ≡ Y.ReadFault → IsFront paths p.asked → EndsWith file paths → EndsIn why p front file paths
  in_inputs : EndsWith file front → paths ≡ with_files p front → EndsIn why p front file paths

-- the last line on the standard error says so of this file
abbrev pub IsNamed : Course → ReadStop → (file : List ℕ) → Type 0
IsNamed c why file =
    c.tells.err → (text : List ℕ) × (c.after.err ≡ text ++ input_message c.tells.tool file (stop_text why))

-- Which paths were asked for, by the status of a run that came to the inputs `front` and left out `back`. Where it came
-- to its end it left none out. Where memory ran out or a write failed, these may be only the first paths.
abbrev pub AskedBy : Status → Course → Planned → (front back paths : List (List ℕ)) → Type 0
AskedBy ReadFault c p front back paths =
    (file : List ℕ) × EndsIn Y.ReadFault p front file paths × IsNamed c Y.ReadFault file
AskedBy Spent c p front back paths = (file : List ℕ) × EndsIn Y.Spent p front file paths × IsNamed c Y.Spent file
AskedBy WriteFault c p front back paths = IsFront paths (with_files p front)
AskedBy NoMemory c p front back paths = IsFront paths (with_files p front)
AskedBy Refused c p front back paths = paths ≡ with_files p front
AskedBy _ c p front back paths = (back ≡ []) × (paths ≡ with_files p front)

-- A run asked for these paths, and of them `Till` holds. It came to the inputs `front` and to no others. No piece of
-- those before the last of them ends the report, and where a piece ended the run (`Stopped`), it is one of theirs.
pub record CameTo (Stopped : Type 0) (Till : (front back paths : List (List ℕ)) → Type 0) (c : Course) (p : Planned)
    (before now : List (List ℕ)) : Type 0 where
  pub front : List (List ℕ)
  pub back : List (List ℕ)
  pub inputs : inputs_of p.plan ≡ front ++ back
  pub paths : List (List ℕ)
  pub asked : now ≡ before ++ paths
  pub till : Till front back paths
  pub goes_on : (first : List (List ℕ)) (last : List ℕ) → front ≡ first ++ last ∷ [] → GoesPast c p.plan first
  pub ended : Stopped → EndsAmong c p.plan front

-- ---- want of memory

-- no more was asked for than paths on the way to the plan
abbrev pub OnTheWay : Planned → (before now : List (List ℕ)) → Type 0
OnTheWay p before now = (paths : List (List ℕ)) × (now ≡ before ++ paths) × IsFront paths p.asked

-- No read and no open of an input failed: the counts of the files stay the same, unless the run was still on the way to
-- its plan. A session reads its files as its lines arrive.
abbrev pub HidesNoInput : Plan → (files : Span) → Planned → (before now : List (List ℕ)) → Type 0
HidesNoInput (Replays w) files p before now = Unit {0}
HidesNoInput _ files p before now = Still files.before files.after ⊎ OnTheWay p before now

-- want of memory hides no failed read of an input
abbrev pub HidesNoRead : Status → (files : Span) → Planned → (before now : List (List ℕ)) → Type 0
HidesNoRead NoMemory files p before now = HidesNoInput p.plan files p before now
HidesNoRead _ files p before now = Unit {0}

-- ---- sessions

-- reading ended a session after some turns, whose answers are written; `AsksTill` says which paths were asked for
abbrev pub LeftTurns : ReadStop → Course → Loading → (before now : List (List ℕ)) → Type 0
LeftTurns why c w before now =
    let input = c.input.before.rest in
    Left c.tells (report (Replays w) c.tree input) (AsksTill (turns w input) before now) why c.before c.after

-- the paths of some turns were asked for, and then a front of those of the next turn
abbrev pub SomeTurns : Course → Loading → (before now : List (List ℕ)) → Type 0
SomeTurns c w before now =
    (k : ℕ) × (last : List (List ℕ)) × AsksTurns (turns w c.input.before.rest) before now k last

-- which paths a session asked for, by its status: where it came to its end, those of all its turns
abbrev pub AskedInTurns : Status → Course → Loading → (before now : List (List ℕ)) → Type 0
AskedInTurns ReadFault c w before now = LeftTurns Y.ReadFault c w before now
AskedInTurns Spent c w before now = LeftTurns Y.Spent c w before now
AskedInTurns WriteFault c w before now = SomeTurns c w before now
AskedInTurns NoMemory c w before now = SomeTurns c w before now
AskedInTurns _ c w before now = now ≡ before ++ asked_in w c.input.before.rest

-- ---- calls

-- the paths that were asked to be opened before a call with this plan, and those after it; of a session this is said if
-- what is read for it is told
abbrev pub OpenedFor : Plan → Status → Course → Planned → (before now : List (List ℕ)) → Type 0
OpenedFor (Replays w) answer c p before now =
    KnowsInputs (Replays w) c.files_tell c.input_tells c.input.before.rest → AskedInTurns answer c w before now
OpenedFor _ answer c p before now = CameTo (answer ≡ Refused) (AskedBy answer c p) c p before now

abbrev pub Opened : Status → Course → Planned → (before now : List (List ℕ)) → Type 0
Opened answer c p before now = OpenedFor p.plan answer c p before now

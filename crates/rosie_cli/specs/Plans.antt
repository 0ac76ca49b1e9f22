-- A plan, which is made for a command before anything is written: its pieces, and where reading may end its run.
use Rattle.std.specs.Prelude.{ℕ, ◌≡◌, false, true, Bool, List, [], ◌∷◌, codes, length, ◌⊎◌}
use Rattle.rosie_run.specs.Inputs.{inputs_pieces, reads_standard, AreTold}
use Rattle.rosie_run.specs.Report.{Piece, stop_piece, text_piece, up_to_stop, status_of}
use Rattle.rosie_run.specs.Sources.{Span}
use Rattle.rosie_run.specs.Where.{InInputs, InRun, Nowhere}
use Rattle.rosie_io.specs.declared.stop.ReadStop.{ReadStop}
use Rattle.rosie_jobs.specs.Lines.{line_reading}
use Rattle.rosie_jobs.specs.Makers.{Maker, Traces, makes_of}
use Rattle.rosie_jobs.specs.SampleCounts.{sample_pieces}
use Rattle.rosie_jobs.specs.SampleRuns.{Sampled}
use Rattle.rosie_session.specs.Loading.{Loading}
use Rattle.rosie_session.specs.Replay.{replay, asked_in}
use Rattle.rosie_session.specs.Where.{InSession}
use Rattle.rosie_suites.specs.Trials.{Bench, Trial, suite_pieces}
use Rattle.rpl_package.specs.Asking.{IsTold}
use Rattle.rosie_run.specs.declared.status.Status.{Status}
use Rattle.rosie_run.specs.declared.status.Status.TheVariants.{NoMemory}

-- pieces for which no input is read, the bytes of a code file that is the whole answer, the tests of a file, a piece
-- for each line of the inputs with these names, what the lines of a sample come to, or a session over the standard
-- input, by what its texts come to
pub data Plan : Type 0 where
  Says : (pieces : List Piece) → Plan
  Writes : (bytes : List ℕ) → Plan
  Tries : (bench : Bench) → (trials : List Trial) → Plan
  RunsOnInputs : (maker : Maker) → (whole : Bool) → (names : List (List ℕ)) → Plan
  Samples : (run : Sampled) → Plan
  Replays : (loading : Loading) → Plan

-- a refusal, and a text that is the whole answer
abbrev pub refusal : List ℕ → Plan
refusal line = Says (stop_piece line ∷ [])

abbrev pub whole_answer : List ℕ → Plan
whole_answer text = Says (text_piece text ∷ [])

-- a plan, and the paths that are asked for on the way to it
pub record Planned : Type 0 where
  pub asked : List (List ℕ)
  pub plan : Plan

-- the pieces, over the tree of files and the standard input
abbrev pub pieces : Plan → List (List ℕ × List ℕ) → List ℕ → List Piece
pieces (Says ps) tree input = ps
pieces (Writes bytes) tree input = text_piece bytes ∷ []
pieces (Tries b trials) tree input = suite_pieces b trials
pieces (RunsOnInputs m whole names) tree input = inputs_pieces (makes_of m) (line_reading whole) tree input names
pieces (Samples r) tree input = sample_pieces (makes_of r.maker) r.seed r.lines
pieces (Replays w) tree input = replay w input

-- the names of the inputs; the standard input is among them
abbrev pub inputs_of : Plan → List (List ℕ)
inputs_of (RunsOnInputs m whole names) = names
inputs_of (Replays w) = codes "-" ∷ []
inputs_of _ = []

abbrev pub ReadsInput : Plan → Type 0
ReadsInput plan = reads_standard (inputs_of plan) ≡ true

-- the standard input isn't among them
abbrev pub IgnoresInput : Plan → Type 0
IgnoresInput plan = reads_standard (inputs_of plan) ≡ false

-- a text or bytes are written, as when a load is refused, or lines are traced: no code is run
abbrev pub IsTracer : Maker → Type 0
IsTracer (Traces limit names job) = Unit {0}
IsTracer _ = ⊥

abbrev pub IsIdlePlan : Plan → Type 0
IsIdlePlan (Says ps) = Unit {0}
IsIdlePlan (Writes bytes) = Unit {0}
IsIdlePlan (RunsOnInputs m whole names) = IsTracer m
IsIdlePlan _ = ⊥

-- where reading may end the run of a plan: among its inputs, or in a file that a line of a session asks for. `input` is
-- the standard input
abbrev pub among : Plan → List (List ℕ × List ℕ) → (input files : Span) → ReadStop → List ℕ → ℕ → Type 0
among (RunsOnInputs m whole names) tree input files =
    InInputs names (λ front. length (inputs_pieces (makes_of m) (line_reading whole) tree input.before.rest front))
    tree whole input.before input.after files.before files.after
among (Replays w) tree input files =
    InSession w input.before.rest input.before input.after files.before files.after
among _ tree input files = Nowhere

-- and on the way to it, where one of the paths is read
abbrev pub stood : Planned → List (List ℕ × List ℕ) → (input files : Span) → ReadStop → List ℕ → ℕ → Type 0
stood p tree input files = InRun p.asked (among p.plan tree input files) files.before files.after

-- ---- the report

-- nothing follows a piece that ends the run
unfoldable pub report : Plan → List (List ℕ × List ℕ) → List ℕ → List Piece
report plan tree input = up_to_stop (pieces plan tree input)

-- the answer is the status of the report, unless memory ran out
abbrev pub IsAnswer : Status → List Piece → Type 0
IsAnswer answer ps = (answer ≡ status_of ps) ⊎ (answer ≡ NoMemory)

-- what is read for a plan is told: the standard input and the files, each where it is among the inputs; for a session
-- the standard input, and the files unless no line of it asks for a path. `rest` is what is left of the standard input
abbrev pub KnowsInputs : Plan → (files input : Type 0) → (rest : List ℕ) → Type 0
KnowsInputs (RunsOnInputs m whole names) files input rest = AreTold names files input
KnowsInputs (Replays w) files input rest = input × IsTold files (asked_in w rest)
KnowsInputs _ files input rest = Unit {0}

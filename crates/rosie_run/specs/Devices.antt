-- The result of a run that takes its inputs and its outputs as two values.
use Rattle.std.specs.Prelude.{◌≡◌, List, Result, length, ℕ}
use Rattle.rosie_io.specs.declared.outside.Sink as K
use Rattle.rosie_io.specs.declared.outside.Source as S
use Rattle.rosie_run.specs.Course.{Course, course_of}
use Rattle.rosie_run.specs.Inputs.{AreTold, inputs_pieces}
use Rattle.rosie_run.specs.Lines.{Makes}
use Rattle.rosie_run.specs.Runs.{Runs, RunReadCause, RunWriteCause}
use Rattle.rosie_run.specs.Sources.{moment_of}
use Rattle.rosie_run.specs.Where.{InInputs}
use Rattle.rosie_run.specs.declared.ended.Ended.{Ended}
use Rattle.rosie_run.specs.declared.inputs.Inputs.{Inputs}
use Rattle.rosie_run.specs.declared.lines.Reading.{Reading}
use Rattle.rosie_run.specs.declared.outputs.Outputs.{Outputs}
use Rattle.rosie_run.specs.declared.tally.Tally.{Tally}
use Rattle.rosie_run.specs.declared.tool.Tool.{Tool}

-- what a run reads from, as one value: the same files and the same standard input as before
abbrev pub SameInputs : {F I : Type 0} → Inputs F I → Inputs F I → Type 0
SameInputs a b = (b.files.ghost_name ≡ a.files.ghost_name) × (b.input.ghost_name ≡ a.input.ghost_name)

-- what it writes to: the same outputs and the same count as before
abbrev pub SameOutputs : {O E L : Type 0} → Outputs O E L → Outputs O E L → Type 0
SameOutputs a b =
    (b.out.ghost_name ≡ a.out.ghost_name) × (b.err.ghost_name ≡ a.err.ghost_name)
    × (b.steps.ghost_name ≡ a.steps.ghost_name)

-- the run that is given them as two values
abbrev pub course :
    {F I O E L : Type 0} → Tool → S.Ghosts F → S.Ghosts I → K.Ghosts O → K.Ghosts E → Inputs F I → Inputs F I
    → Outputs O E L → Outputs O E L → Course
course tool F I O E a b c d =
    course_of tool F I O E a.files.now b.files.now a.input.now b.input.now c.out.now d.out.now c.err.now d.err.now
    c.steps.now d.steps.now

-- the run over the inputs with these names, if their contents are visible
abbrev pub RunsInputs : Result Tally Ended → Makes → Reading → List (List ℕ) → Course → Type 0
RunsInputs result makes r names c =
    AreTold names c.files_tell c.input_tells
    → Runs result c.tells (inputs_pieces makes r c.tree c.input.before.rest names)
    (InInputs names (λ front. length (inputs_pieces makes r c.tree c.input.before.rest front)) c.tree r.whole
    c.input.before c.input.after c.files.before c.files.after) c.before c.after

-- the counts of the inputs, and of the outputs: the run stops early for a fault only if a count of faults rose
abbrev pub DevicesReadCause :
    {F I : Type 0} → S.Ghosts F → S.Ghosts I → Result Tally Ended → Inputs F I → Inputs F I → Type 0
DevicesReadCause F I result a b =
    RunReadCause result (moment_of I a.input.now) (moment_of I b.input.now) (moment_of F a.files.now)
    (moment_of F b.files.now)

abbrev pub DevicesWriteCause :
    {O E L : Type 0} → K.Ghosts O → K.Ghosts E → Result Tally Ended → Outputs O E L → Outputs O E L → Type 0
DevicesWriteCause O E result a b =
    RunWriteCause result (O.faults a.out.now) (O.faults b.out.now) (E.faults a.err.now) (E.faults b.err.now)

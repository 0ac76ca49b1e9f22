-- How contracts see the run of what the words ask for.
use Rattle.std.specs.Prelude.{Result, Ok, false, length}
use Rattle.rosie_io.specs.declared.outside.Sink as K
use Rattle.rosie_io.specs.declared.outside.Source as S
use Rattle.rosie_run.specs.Course.{Course}
use Rattle.rosie_run.specs.Inputs.{AreTold}
use Rattle.rosie_run.specs.Runs.{Runs}
use Rattle.rosie_run.specs.Where.{InInputs}
use Rattle.rosie_run.specs.declared.ended.Ended.{Ended}
use Rattle.rosie_run.specs.declared.inputs.Inputs.{Inputs}
use Rattle.rosie_run.specs.declared.outputs.Outputs.{Outputs}
use Rattle.rosie_run.specs.declared.tally.Tally.{Tally}
use Rattle.rosie_columns_cli.specs.Report.{inputs_of, pieces, rows}
use Rattle.rosie_columns_cli.specs.RosieColumns.{Call, call, stood}
use Rattle.rosie_columns_cli.specs.declared.ending.Ending.{Ending}
use Rattle.rosie_columns_cli.specs.declared.fault.WordFault.{WordFault}
use Rattle.rosie_columns_cli.specs.declared.words.Asked.{Asked}

-- the call whose inputs and outputs are these before and after
abbrev pub call_over :
    {F I O E L : Type 0} → (asked : Result Asked WordFault) → S.Ghosts F → S.Ghosts I → K.Ghosts O
    → K.Ghosts E → Inputs F I → Inputs F I → Outputs O E L → Outputs O E L → Ending → Call
call_over asked F I O E i i' o o' answer =
    call asked F I O E i.files.now i'.files.now i.input.now i'.input.now o.out.now o'.out.now o.err.now o'.err.now
    o.steps.now o'.steps.now answer

-- the rows are written, or the run breaks off, where what is read is told
abbrev pub RunsRows : Result Tally Ended → Asked → Course → Type 0
RunsRows result a c =
    AreTold (inputs_of a) c.files_tell c.input_tells
    → Runs result c.tells (rows a c.tree c.input.before.rest (inputs_of a))
    (InInputs (inputs_of a) (λ front. length (rows a c.tree c.input.before.rest front)) c.tree false
    c.input.before c.input.after c.files.before c.files.after) c.before c.after

-- and so with the header and the last lines
abbrev pub RunsAsked : Result Tally Ended → Asked → Course → Type 0
RunsAsked result a c =
    AreTold (inputs_of a) c.files_tell c.input_tells
    → Runs result c.tells (pieces (Ok a) c.tree c.input.before.rest) (stood (Ok a) c) c.before c.after

-- The result of a call of `rosie-columns`, sentence by sentence. This is the place to begin.
--
-- The words ask for something, or have a first fault (`reading`), and the report is what that writes over the tree of
-- files and the standard input: the row of names, the row or the message for each line, and the last lines (`Report`).
-- `Headline` defines what each status says about the report, also if a read, a write or an allocation fails.
use Rattle.std.specs.Prelude.{ℕ, ◌≡◌, ◌+◌, Bool, true, false, List, [], length, Result, Ok, Err}
use Rattle.rosie_io.specs.declared.outside.Sink as K
use Rattle.rosie_io.specs.declared.outside.Source as S
use Rattle.rosie_run.specs.Causes.{AnswerWriteCause, AnswerReadCause}
use Rattle.rosie_run.specs.Course.{Course, course_of}
use Rattle.rosie_run.specs.Headline.{CameToEnd, Headline}
use Rattle.rosie_run.specs.Inputs.{AreTold, reads_standard}
use Rattle.rosie_run.specs.Outputs.{Failures, failures}
use Rattle.rosie_run.specs.Report.{Piece}
use Rattle.rosie_run.specs.Where.{InInputs, Nowhere}
use Rattle.rosie_io.specs.declared.stop.ReadStop.{ReadStop}
use Rattle.rosie_run.specs.declared.tool.Tool.TheVariants.{RosieColumns}
use Rattle.rosie_columns_cli.specs.Endings.{ending_of, status_in}
use Rattle.rosie_columns_cli.specs.Report.{has_last, inputs_of, report, rows}
use Rattle.rosie_columns_cli.specs.declared.ending.Ending.{Ending}
use Rattle.rosie_columns_cli.specs.declared.fault.WordFault.{WordFault}
use Rattle.rosie_columns_cli.specs.declared.words.Asked.{Asked}

-- A call: what its words ask for; what is visible of its files and its streams, and their states before and after, with
-- the machine's steps; how often its outputs had failed before and after; and its ending.
pub record Call : Type 1 where
  pub asked : Result Asked WordFault
  pub run : Course
  pub failed : Failures
  pub fails : Failures
  pub answer : Ending

-- the call whose files, standard input and outputs are these before and after, with so many steps
abbrev pub call :
    {F I O E : Type 0} → (asked : Result Asked WordFault) → S.Ghosts F → S.Ghosts I → K.Ghosts O
    → K.Ghosts E → F → F → I → I → O → O → E → E → ℕ → ℕ → Ending → Call
call asked F I O E f f' i i' o o' e e' n n' answer = record {
  asked = asked;
  run = course_of RosieColumns F I O E f f' i i' o o' e e' n n';
  failed = failures O E o e;
  fails = failures O E o' e';
  answer = answer;
}

-- the names of its inputs
abbrev pub names : Result Asked WordFault → List (List ℕ)
names (Ok a) = inputs_of a
names (Err fault) = []

abbrev pub IsRefused : Result Asked WordFault → Type 0
IsRefused (Ok a) = ⊥
IsRefused (Err fault) = Unit {0}

-- what is read is told: the standard input and the files, each where it is among the inputs
abbrev pub Knows : Call → Type 0
Knows c = AreTold (names c.asked) c.run.files_tell c.run.input_tells

abbrev pub report_of : Call → List Piece
report_of c = report c.asked c.run.tree c.run.input.before.rest

-- where reading may have ended it: after the row of names, and the pieces of the inputs before
abbrev pub stood : Result Asked WordFault → Course → ReadStop → (file : List ℕ) → (k : ℕ) → Type 0
stood (Err fault) c = Nowhere
stood (Ok a) c =
    InInputs (inputs_of a) (λ front. 1 + length (rows a c.tree c.input.before.rest front)) c.tree false
    c.input.before c.input.after c.files.before c.files.after

-- there are last lines
abbrev pub has_last_lines : Result Asked WordFault → Course → Bool
has_last_lines (Err fault) c = false
has_last_lines (Ok a) c = has_last a c.tree c.input.before.rest

pub record Answers (c : Call) : Type 0 where
  -- all of the report is written, or its first pieces and why reading ended the run, or a front of it
  pub headline : Knows c
      → Headline (status_in c.answer) c.run.tells (report_of c) (stood c.asked c.run) c.run.before c.run.after
  -- where each line was a tree, the answer tells whether there are last lines
  pub ending : Knows c → c.answer ≡ ending_of (status_in c.answer) (has_last_lines c.asked c.run)
  -- where the run came to its end, the standard input was read to its end, if it is among the inputs
  pub read : Knows c → CameToEnd (status_in c.answer) → reads_standard (names c.asked) ≡ true
      → c.run.input.after.rest ≡ []
  -- whatever is told: no fault is answered without its cause
  pub reads : AnswerReadCause (status_in c.answer) c.run.input.before c.run.input.after c.run.files.before
      c.run.files.after
  pub writes : AnswerWriteCause (status_in c.answer) c.failed.out c.fails.out c.failed.err c.fails.err

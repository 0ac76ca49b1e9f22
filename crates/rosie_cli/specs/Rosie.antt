-- The result of a call of `rosie`, sentence by sentence. This is the place to begin.
--
-- The words have a plan over the tree of files (`IsPlanned`), and the report is what that plan writes over the tree
-- and the standard input, piece by piece, up to a piece that ends the run. `Headline` defines what each status says
-- about the report. `Laws` states what holds for every plan, whether it is run or not.
--
-- Read these files in this order:
--   1. rosie_cli/Rosie      the result of a call
--   2. rosie_cli/Words      what the words ask for: a command, or a text that refuses them
--   3. rosie_cli/Plans      what a plan is, and its pieces
--   4. rosie_cli/Planned    the plan of each command
--   5. rosie_run/Report     what a piece is, where a report ends, and its status
--   6. rosie_run/Inputs     the pieces of the inputs, one input after the other
--   7. rosie_run/Lines      the pieces of the lines of an input, and the texts of faults
--   8. rosie_jobs/Lines     the piece of a line, by cases
--   9. rosie_run/Outputs    what was written to the outputs, and what pieces add to that
--  10. rosie_run/Headline   what each status says about the report
--  11. rosie_run/Where      where reading stood when it ended a run
--  12. rosie_cli/Opened     which paths were asked to be opened
--  13. rosie_session/Asked  and by the turns of a session
--  14. rosie_cli/Limits     which runs are within every limit
--
-- You may stop at these relations. All words have one plan and no second one, by `one_plan`. The law named beside a
-- relation says that its value is the only one, and in most cases also that there is one.
--   `IsPrepared` (rosie_prepare/Prepared)     the rules and the core of a pattern, by `one_preparation`
--   `TablePasses` (rosie_prepare/Prepared)    packages without a pattern, by `one_table`
--   `IsCode` (rpl_core/Programs)              the code of a core, by `code_law` and `has_code_law`
--   `Spells` (rpl_codefile/Spelling)          the bytes of a code, by `one_spelling` and `has_spelling`
--   `IsLoaded` (rosie_jobs/Loaded)            the code of a file, by `one_loading`
--   `IsSuite` (rosie_suites/Suites)           the tests of a file, by `one_suite`
--   `IsLoading` (rosie_session/Loading)       the loaded texts of a session, by `one_loading`
--   `IsExpansion` (rosie_inspect/Expansions)  the text of `expand`, by `one_expansion`
--   `IsNamesText` (rosie_inspect/Names)       the text of `list`, by `one_names_text`
-- at these functions, whose values need no law:
--   `reading` (rosie_words/Reading)           the command that words spell, or their first fault
--   `words_of` (rosie_words/Reading)          strings as words
--   `fault_line` (rosie_words/Printed)        the line of a fault of the words
--   `usage` (rosie_words/Printed)             the text below it
--   `world` (rpl_names/Loading)                 the files of the folders, each as a module
--   `load` (rpl_names/Roots)                    the packages of the roots, and the paths that are asked for
--   `all_listed` (rpl_names/Names)              the names that a pattern may use
--   `compile_line` (rosie_prepare/Lines)      the line of a pattern whose code is too long
--   `file_of` (rosie_io/Opening)              the bytes of the file with a path, if there is one
--   `files_among` (rosie_run/Asked)           the inputs but for the standard input
--   `lines` (rosie_io/Lines)                  the lines of some bytes
--   `feeds` (rosie_io/Lines)                  how many line feeds are among them
--   `outcome` (rpl_core/Outcome)              what a core matches at the start of a text, and its work
--   `work_of` (rpl_core/Outcome)              the work of an outcome
--   `run` (rpl_core/Run)                      what a code does with a text, and its steps
--   `max_code_length` (rpl_core/Programs)     the most instructions that a code may have
--   `written` (rosie_jobs/Written)            the trees of a list of captures
--   `print` (rpl_encode/Print)                the answer of a line in a style
--   `max_answer_bytes` (rpl_encode/Answer)    the most bytes that an answer may have
--   `trace` (rpl_trace/Evaluations)           the evaluations of a core on a text
--   `printed` (rpl_trace/Printed)             their lines
--   `set_named` (rpl_classes/Classes)         the set of a named class
--   `class_text` (rosie_inspect/Classes)      its text
--   `lines` (rosie_inspect/Listing)           the lines of a program
--   `suite_pieces` (rosie_suites/Trials)      the pieces of the tests of a file
--   `sample` (rosie_jobs/SampleLines)         the lines of a sample
--   `sample_pieces` (rosie_jobs/SampleCounts) its pieces
--   `replay` (rosie_session/Replay)           the pieces of a session
--   `turns` (rosie_session/Replay)            its answers, one by one
--   `asked_in` (rosie_session/Replay)         the paths that its lines ask for
-- and at the types that these mention:
--   `Word` (rosie_words/Table)                a word of a command line
--   `Packages` (rpl_names/Roots)                packages, with their modules and rules
--   `Expr` (rpl_syntax/Expression)            an expression
--   `Row` (rpl_forms/Table)                   a rule of a table: its name, its block and its core
--   `Core` (rpl_core/Core)                    a pattern without names
--   `Instr` (rpl_core/Instr)                  an instruction of a code
--   `CodeOrLine` (rosie_jobs/Loaded)          a code, or the line that says why there is none
--   `Outcome` (rpl_core/Meaning)              no match, or the place and the trees of a match, with the work
--   `Answer` (rpl_core/Run)                   the same of a run, with its captures and its steps
--   `Suite` (rosie_suites/Suites)             the tests of a file, with what they have in common
--   `Bench` (rosie_suites/Trials)             what all tests of a file have in common
--   `Trial` (rosie_suites/Trials)             a test, with the rule that it tests
--   `Subject` (rosie_suites/Trials)           the code of such a rule, if it has one
--   `Sampled` (rosie_jobs/SampleRuns)         a job, a seed and a number of lines
--   `Loading` (rosie_session/Loading)         what loading the texts of a session gives
--   `Session` (rosie_repl/Session)            the state of a session
--   `Turn` (rosie_session/Replay)             the answer to a line of a session
use Rattle.std.specs.Prelude.{ℕ, ◌≡◌, Bool, false, List, []}
use Rattle.rosie_io.specs.declared.outside.Sink as K
use Rattle.rosie_io.specs.declared.outside.Source as S
use Rattle.rosie_run.specs.Causes.{AnswerWriteCause, AnswerReadCause}
use Rattle.rosie_run.specs.Course.{Course, course_of}
use Rattle.rosie_run.specs.Headline.{CameToEnd, Headline, IsComplete, NothingFails}
use Rattle.rosie_run.specs.Outputs.{Failures, failures}
use Rattle.rosie_run.specs.Report.{Piece}
use Rattle.rosie_io.specs.declared.stop.ReadStop.{ReadStop}
use Rattle.rosie_run.specs.declared.status.Status.{Status}
use Rattle.rosie_run.specs.declared.tool.Tool.TheVariants.{Rosie}
use Rattle.rpl_package.specs.Asking.{IsTold}
use Rattle.rosie_cli.specs.Opened.{HidesNoRead, Opened}
use Rattle.rosie_cli.specs.Plans.{Planned, ReadsInput, inputs_of, stood, IsAnswer, KnowsInputs, report}
use Rattle.rosie_cli.specs.Limits.{KeepsLimits}

-- A call: its plan; what is visible of its files and its streams, and their states before and after, with the machine's
-- steps; the paths that were asked to be opened before and after; whether the standard input had already answered that
-- it is at its end, and what was asked of it before and after; how often its outputs had failed before and after; and
-- its status.
pub record Call : Type 1 where
  pub plans : Planned → Type 0
  pub run : Course
  pub asked_before : List (List ℕ)
  pub asked_after : List (List ℕ)
  pub input_ended : Bool
  pub input_asked_before : List (List ℕ)
  pub input_asked_after : List (List ℕ)
  pub failures_before : Failures
  pub failures_after : Failures
  pub answer : Status

-- the call whose files, standard input and outputs are these before and after, with so many steps
abbrev pub call :
    {F I O E : Type 0} → (comes : Planned → Type 0) → S.Ghosts F → S.Ghosts I → K.Ghosts O
    → K.Ghosts E → F → F → I → I → O → O → E → E → ℕ → ℕ → Status → Call
call comes F I O E f f' i i' o o' e e' n n' answer = record {
  plans = comes;
  run = course_of Rosie F I O E f f' i i' o o' e e' n n';
  asked_before = F.asked f;
  asked_after = F.asked f';
  input_ended = I.ended i;
  input_asked_before = I.asked i;
  input_asked_after = I.asked i';
  failures_before = failures O E o e;
  failures_after = failures O E o' e';
  answer = answer;
}

-- it comes to this plan, on the way to which the files tell or no path is asked for, and whose inputs are told
pub record HasPlan (c : Call) (p : Planned) : Type 0 where
  pub is : c.plans p
  pub files : IsTold c.run.files_tell p.asked
  pub inputs : KnowsInputs p.plan c.run.files_tell c.run.input_tells c.run.input.before.rest

abbrev pub report_of : Call → Planned → List Piece
report_of c p = report p.plan c.run.tree c.run.input.before.rest

-- where reading may have ended it
abbrev pub where_of : Call → Planned → ReadStop → (file : List ℕ) → (k : ℕ) → Type 0
where_of c p = stood p c.run.tree c.run.input c.run.files

abbrev pub Undisturbed : Call → Planned → Type 0
Undisturbed c p = NothingFails (inputs_of p.plan) c.run.tree c.run.input c.run.files c.failures_before c.failures_after

pub record Answers (c : Call) : Type 0 where
  -- all of the report is written, or its first pieces and why reading ended the run, or a front of it
  pub headline : (p : Planned) → HasPlan c p
      → Headline c.answer c.run.tells (report_of c p) (where_of c p) c.run.before c.run.after
  -- where the run came to its end, the standard input was read to its end, if it is among the inputs
  pub read : (p : Planned) → HasPlan c p → CameToEnd c.answer → ReadsInput p.plan → c.run.input.after.rest ≡ []
  -- where no read and no write goes wrong the answer is the report's; over lines that every limit allows, it tells
  -- whether one matches
  pub status : (p : Planned) → HasPlan c p → Undisturbed c p → IsAnswer c.answer (report_of c p)
  pub complete : (p : Planned) → HasPlan c p → Undisturbed c p → KeepsLimits p.plan c.run.tree c.run.input.before.rest
      → IsComplete c.answer (report_of c p)
  -- the files that its plan and its inputs name are asked to be opened, and no others. This holds even where nothing is
  -- told of the files, if no path is asked for on the way to the plan
  pub opened : (p : Planned) → IsTold c.run.files_tell p.asked → c.plans p
      → Opened c.answer c.run p c.asked_before c.asked_after
  -- and then memory that ran out hides no failed read of an input
  pub unhidden : (p : Planned) → IsTold c.run.files_tell p.asked → c.plans p
      → HidesNoRead c.answer c.run.files p c.asked_before c.asked_after
  -- whatever is told: nothing is read from the standard input once it has answered that it is at its end
  pub past_end : c.input_ended ≡ false → c.input_asked_after ≡ c.input_asked_before
  -- and no fault is answered without its cause
  pub reads : AnswerReadCause c.answer c.run.input.before c.run.input.after c.run.files.before c.run.files.after
  pub writes : AnswerWriteCause c.answer c.failures_before.out c.failures_after.out
      c.failures_before.err c.failures_after.err

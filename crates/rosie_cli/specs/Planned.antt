-- The plan of the words over the tree of files.
use Rattle.std.specs.Prelude.{ℕ, ◌≡◌, Bool, true, false, nat_lt, if◌then◌else◌, map, List, [], ◌∷◌, length, Ok, Err}
use Rattle.std.specs.Prelude.{Option, Some, None, chars, codes, encode_utf8_all, ◌<◌, ◌⊎◌, ◌++◌}
use Rattle.rosie_prepare.specs.Lines.{compile_line}
use Rattle.rosie_run.specs.Inputs.{reads_standard}
use Rattle.rosie_prepare.specs.Prepared.{Tree, PatternRequest, Ready, OrLine, IsPrepared, bodies, TablePasses}
use Rattle.rosie_words.specs.declared.command.Command.{Command}
use Rattle.rosie_words.specs.declared.command.What.{What}
use Rattle.rpl_classes.specs.Classes.{set_named}
use Rattle.rpl_core.specs.Instr.{Instr}
use Rattle.rpl_forms.specs.Table.{Row}
use Rattle.rpl_core.specs.Programs.{IsCode, max_code_length}
use Rattle.rpl_names.specs.declared.roots.Root.TheVariants.{Given}
use Rattle.rosie_jobs.specs.Lines.{Job}
use Rattle.rosie_jobs.specs.Makers.{Matches, Traces, RunsCode}
use Rattle.rosie_words.specs.declared.settings.Settings.{Settings}
use Rattle.rosie_jobs.specs.SampleCounts.{sample_pattern, sample_rules}
use Rattle.rosie_cli.specs.Plans.{Plan, RunsOnInputs, Planned, refusal, Samples, Writes, whole_answer, Tries, Replays}
use Rattle.rosie_cli.specs.Words.{CommandLine, Refuse, Do}
use Rattle.rosie_jobs.specs.Loaded.{IsLoaded, CodeOrLine}
use Rattle.rosie_io.specs.Opening.{file_of}
use Rattle.rpl_codefile.specs.Spelling.{Spells}
use Rattle.rosie_inspect.specs.Expansions.{IsExpansion}
use Rattle.rosie_inspect.specs.Listing.{lines}
use Rattle.rosie_inspect.specs.Names.{IsNamesText}
use Rattle.rpl_names.specs.Loading.{world}
use Rattle.rpl_names.specs.Names.{all_listed}
use Rattle.rpl_names.specs.Roots.{Packages, load}
use Rattle.rpl_names.specs.declared.roots.Root.{Root}
use Rattle.regex_class.specs.Ranges.{Range}
use Rattle.rosie_inspect.specs.Classes.{class_text}
use Rattle.rosie_suites.specs.Suites.{IsSuite, Suite}
use Rattle.rosie_session.specs.Loading.{IsLoading, Loading}
use Rattle.rosie_words.specs.declared.command.What.TheVariants as W

-- ---- code files

-- the code that is loaded runs on each line of these inputs; where none is, that is reported
abbrev pub code_plan : Settings → List (List ℕ) → CodeOrLine → Plan
code_plan s names (Err line) = refusal line
code_plan s names (Ok code) = RunsOnInputs (RunsCode s code) s.whole names

-- the plan of the code file at the path
pub record IsCodeLines (s : Settings) (path : List ℕ) (names : List (List ℕ)) (tree : List (List ℕ × List ℕ))
    (p : Planned) : Type 0 where
  pub loaded : CodeOrLine
  pub loads : IsLoaded path (file_of path tree) loaded
  pub asks : p.asked ≡ path ∷ []
  pub runs : p.plan ≡ code_plan s names loaded

-- ---- `compile`

-- the encoded code is written, unless it is too long
abbrev pub IsWritten : List Instr → Plan → Type 0
IsWritten code plan =
    ((max_code_length < length code) × (plan ≡ refusal compile_line))
    ⊎ ((bytes : List ℕ) × Spells code bytes × (plan ≡ Writes bytes))

-- that of a pattern that is ready, or the line of the first fault
abbrev pub CompilesTo : OrLine Ready → Plan → Type 0
CompilesTo (Err line) plan = plan ≡ refusal line
CompilesTo (Ok r) plan = (code : List Instr) × IsCode (bodies r.rules) r.goal code × IsWritten code plan

-- the plan of `compile`
pub record IsCompiled (w : PatternRequest) (tree : Tree) (p : Planned) : Type 0 where
  pub ready : OrLine Ready
  pub prepares : IsPrepared tree w p.asked ready
  pub compiles : CompilesTo ready p.plan

-- ---- `expand`

-- the text with the lines of its program, unless the code is too long
abbrev pub with_code : List ℕ → List Instr → Plan
with_code text code =
    if nat_lt max_code_length (length code) then refusal compile_line
    else whole_answer (text ++ lines 0 code)

-- the plan of a pattern that is ready: its expansion, and with `--code` its program
abbrev pub Shows : (wants_code : Bool) → Ready → List ℕ → Plan → Type 0
Shows false r text plan = plan ≡ whole_answer text
Shows true r text plan = (code : List Instr) × IsCode (bodies r.rules) r.goal code × (plan ≡ with_code text code)

-- a pattern that is ready, or the line of the first fault
abbrev pub Expands : (wants_code : Bool) → OrLine Ready → Plan → Type 0
Expands wants_code (Err line) plan = plan ≡ refusal line
Expands wants_code (Ok r) plan =
    (text : List ℕ) × IsExpansion r.rules r.expr r.goal text × Shows wants_code r text plan

-- the plan of `expand`, with `--code` or without it
pub record IsExpanded (w : PatternRequest) (wants_code : Bool) (tree : Tree) (p : Planned) : Type 0 where
  pub ready : OrLine Ready
  pub prepares : IsPrepared tree w p.asked ready
  pub expands : Expands wants_code ready p.plan

-- ---- `list`

-- the names that a pattern may use over these packages, or the line of the first fault
abbrev pub Lists : OrLine Packages → Plan → Type 0
Lists (Err line) plan = plan ≡ refusal line
Lists (Ok packages) plan = (text : List ℕ) × IsNamesText (all_listed packages) text × (plan ≡ whole_answer text)

-- the plan of `list` over roots and the folders of the library path
pub record IsListed (roots : List Root) (folders : List (List ℕ)) (tree : Tree) (p : Planned) : Type 0 where
  pub packages : OrLine Packages
  pub asked : p.asked ≡ map encode_utf8_all (load (world tree folders) roots).asked
  pub comes : TablePasses (load (world tree folders) roots).answer packages
  pub lists : Lists packages p.plan

-- ---- `class`

abbrev pub class_plan : List ℕ → Option (List Range) → Plan
class_plan name None = refusal (codes "rosie: unknown class: " ++ (encode_utf8_all name ++ codes "\n"))
class_plan name (Some ranges) = whole_answer (class_text ranges)

-- ---- `test`

-- the tests of a file are tried, or the line of the first fault is reported
abbrev pub test_plan : OrLine Suite → Plan
test_plan (Err line) = refusal line
test_plan (Ok s) = Tries s.bench s.trials

-- the plan of `test` on a file, over the folders of the library path
pub record IsTesting (folders : List (List ℕ)) (file : List ℕ) (budget : Option ℕ) (tree : Tree) (p : Planned)
    : Type 0 where
  pub suite : OrLine Suite
  pub comes : IsSuite tree folders file budget p.asked suite
  pub tries : p.plan ≡ test_plan suite

-- ---- `repl`

-- a session loads what it keeps over the tree of files, by the folders of the library path. Nothing is asked for before
-- its first line
pub record IsReplayed (folders : List (List ℕ)) (tree : Tree) (p : Planned) : Type 0 where
  pub loading : Loading
  pub loads : IsLoading tree folders loading
  pub plan : p ≡ record { asked = []; plan = Replays loading }

-- ---- `match`, `grep`, `trace` and `sample`

-- the names of the inputs: if none are given, the standard input is the only one
abbrev pub names_or : List (List ℕ) → List (List ℕ)
names_or [] = codes "-" ∷ []
names_or (name ∷ more) = name ∷ more

abbrev pub input_names : List (List ℕ) → List (List ℕ)
input_names inputs = names_or (map encode_utf8_all inputs)

-- the names of the inputs that the words ask for
abbrev pub asked_names : What → List (List ℕ)
asked_names (W.Match pattern inputs) = input_names inputs
asked_names (W.Grep pattern inputs) = input_names inputs
asked_names (W.Trace pattern inputs) = input_names inputs
asked_names W.Repl = codes "-" ∷ []
asked_names _ = []

-- the standard input isn't among them
abbrev pub LeavesStandard : CommandLine → Type 0
LeavesStandard (Refuse text) = Unit {0}
LeavesStandard (Do c) = reads_standard (asked_names c.what) ≡ false

-- the job of what is ready, with this code
abbrev pub job_with : Ready → List Instr → Job
job_with r code = record { rules = bodies r.rules; goal = r.goal; code = code }

-- what is prepared runs by the plan of its rules and its job; where it isn't, or where its code is too long, that is
-- reported
abbrev pub plan_unless_long : Plan → List Instr → Plan
plan_unless_long plan code = if nat_lt max_code_length (length code) then refusal compile_line else plan

abbrev pub IsRun : (List Row → Job → Plan) → OrLine Ready → Plan → Type 0
IsRun run (Err line) plan = plan ≡ refusal line
IsRun run (Ok r) plan =
    (code : List Instr) × IsCode (bodies r.rules) r.goal code
    × (plan ≡ plan_unless_long (run r.rules (job_with r code)) code)

-- the plan of a command that runs a pattern
pub record IsRunning (run : List Row → Job → Plan) (w : PatternRequest) (tree : Tree) (p : Planned) : Type 0 where
  pub ready : OrLine Ready
  pub prepares : IsPrepared tree w p.asked ready
  pub runs : IsRun run ready p.plan

-- it is matched on each line of the inputs, or is traced there, where the rules are told by their full names
abbrev pub matching : Settings → (inputs : List (List ℕ)) → List Row → Job → Plan
matching s inputs rules job = RunsOnInputs (Matches s job) s.whole (input_names inputs)

abbrev pub tracing : (limit : ℕ) → (whole : Bool) → (inputs : List (List ℕ)) → List Row → Job → Plan
tracing limit whole inputs rules job =
    RunsOnInputs (Traces limit (map (λ r. r.name) rules) job) whole (input_names inputs)

-- and on so many lines of the sample of a seed
abbrev pub sampling : Settings → (seed lines : ℕ) → List Row → Job → Plan
sampling s seed lines rules job = Samples (record { maker = Matches s job; seed = seed; lines = lines })

-- what a command wants of its pattern, which it matches from the start of a line or looks for
abbrev pub pattern_request : Command → List ℕ → (find : Bool) → PatternRequest
pattern_request c pattern find = record {
  roots = c.roots;
  folders = c.folders;
  text = encode_utf8_all pattern;
  fixed = c.fixed;
  find = find;
}

-- a sample has its own rules and its own pattern
abbrev pub sample_request : (folders : List (List ℕ)) → PatternRequest
sample_request folders = record {
  roots = Given (chars sample_rules) ∷ [];
  folders = folders;
  text = sample_pattern;
  fixed = false;
  find = false;
}

-- the plan of `match`: of its pattern, or of its code file
abbrev pub IsMatch : Command → Option (List ℕ) → List ℕ → List (List ℕ) → Tree → Planned → Type 0
IsMatch c None pattern inputs tree p =
    IsRunning (matching c.settings inputs) (pattern_request c pattern false) tree p
IsMatch c (Some path) pattern inputs tree p =
    IsCodeLines c.settings (encode_utf8_all path) (input_names inputs) tree p

-- the plan of each command
abbrev pub IsPlannedAs : Command → What → Tree → Planned → Type 0
IsPlannedAs c (W.Match pattern inputs) tree p = IsMatch c c.code_file pattern inputs tree p
IsPlannedAs c (W.Grep pattern inputs) tree p =
    IsRunning (matching c.settings inputs) (pattern_request c pattern true) tree p
IsPlannedAs c (W.Test file) tree p = IsTesting c.folders file c.settings.budget tree p
IsPlannedAs c (W.Class name) tree p = p ≡ record { asked = []; plan = class_plan name (set_named name) }
IsPlannedAs c W.List tree p = IsListed c.roots c.folders tree p
IsPlannedAs c (W.Expand pattern) tree p = IsExpanded (pattern_request c pattern false) c.code tree p
IsPlannedAs c (W.Compile pattern) tree p = IsCompiled (pattern_request c pattern false) tree p
IsPlannedAs c (W.Trace pattern inputs) tree p =
    IsRunning (tracing c.limit c.settings.whole inputs) (pattern_request c pattern false) tree p
IsPlannedAs c (W.Sample seed lines) tree p =
    IsRunning (sampling c.settings seed lines) (sample_request c.folders) tree p
IsPlannedAs c W.Repl tree p = IsReplayed c.folders tree p

-- and of all words
abbrev pub IsPlanned : CommandLine → Tree → Planned → Type 0
IsPlanned (Refuse text) tree p = p ≡ record { asked = []; plan = refusal text }
IsPlanned (Do c) tree p = IsPlannedAs c c.what tree p

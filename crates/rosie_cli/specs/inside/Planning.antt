-- How contracts see a plan, and what comes of making one.
use Rattle.std.specs.Prelude.{◌≡◌, ℕ, Bool, List, [], Option, None, Some, Result, Ok, Err, false}
use Rattle.std.specs.Prelude.{string_bytes, encode_utf8_all}
use Rattle.rosie_prepare.specs.Lines.{Line, compile_line}
use Rattle.rosie_inspect.specs.Expanded.{text_of}
use Rattle.rosie_io.specs.Loading.{NotFewer}
use Rattle.rosie_io.specs.declared.outside.Source.{Ghosts}
use Rattle.rosie_jobs.specs.Jobs.{job_of, matcher_of, rule_names}
use Rattle.rosie_jobs.specs.Lines.{Job}
use Rattle.rosie_jobs.specs.Makers.{Traces}
use Rattle.rosie_run.specs.Unready.{CauseIn, HasAsked}
use Rattle.rosie_prepare.specs.Prepared.{PatternRequest}
use Rattle.rosie_prepare.specs.declared.prepared.Prepared.{Prepared}
use Rattle.rosie_run.specs.declared.unready.Unready.{Unready}
use Rattle.rosie_run.specs.declared.unready.Unready.TheVariants as U
use Rattle.rosie_run.specs.Inputs.{names_of}
use Rattle.rosie_jobs.specs.SampleViews.{sampled_of}
use Rattle.rosie_suites.specs.Seen.{bench_of, trials_of}
use Rattle.rpl_check.specs.Checked.{IsWhole}
use Rattle.rpl_check.specs.Goal.{peg_of}
use Rattle.rpl_codegen.specs.declared.whole.CompileFault.{CompileFault}
use Rattle.rpl_codegen.specs.declared.whole.CompileFault.TheVariants as C
use Rattle.rpl_core.specs.Table.{bodies_of}
use Rattle.rpl_core.specs.View.{core_of}
use Rattle.rpl_forms.specs.Rows.{Row}
use Rattle.rpl_names.specs.declared.roots.Root.{Root}
use Rattle.rpl_compile_laws.specs.Laws.{IsCapture}
use Rattle.rosie_cli.specs.Planned.{input_names, matching, sampling, tracing}
use Rattle.rosie_cli.specs.Plans as P
use Rattle.rosie_cli.specs.declared.goal_plan.Purpose.{Purpose}
use Rattle.rosie_cli.specs.declared.goal_plan.Purpose.TheVariants as R
use Rattle.rosie_cli.specs.declared.plan.Plan.{Plan}
use Rattle.rosie_cli.specs.declared.plan.Plan.TheVariants.{Answer, Expand, Write, Test, Match, Trace, Sample}

abbrev pub plan_of : Plan → P.Plan
plan_of (Answer text) = P.whole_answer (string_bytes text)
plan_of (Expand expansion) = P.whole_answer (text_of expansion)
plan_of (Write bytes) = P.Writes bytes
plan_of (Test suite) = P.Tries (bench_of suite) (trials_of suite)
plan_of (Match job whole names) = P.RunsOnInputs (matcher_of job) whole (names_of encode_utf8_all names)
plan_of (Trace job limit whole names) =
    P.RunsOnInputs (Traces limit (rule_names job) (job_of job)) whole (names_of encode_utf8_all names)
plan_of (Sample run) = P.Samples (sampled_of run)

-- the run of a pattern for a purpose
abbrev pub run_of : Purpose → List Row → Job → P.Plan
run_of (R.Match settings inputs) = matching settings inputs
run_of (R.Trace limit whole inputs) = tracing limit whole inputs
run_of (R.Sample settings seed lines) = sampling settings seed lines

-- what is wanted of a pattern, over these roots and folders
abbrev pub wanted : List Root → (folders : List (List ℕ)) → (fixed find : Bool) → (pattern : List ℕ) → PatternRequest
wanted roots folders fixed find pattern =
    record { roots = roots; folders = folders; text = encode_utf8_all pattern; fixed = fixed; find = find }

-- what is wanted of a text as a pattern that a line is matched with from its start
abbrev pub wanted_text : List Root → (folders : List (List ℕ)) → (text : List ℕ) → PatternRequest
wanted_text roots folders text = record { roots = roots; folders = folders; text = text; fixed = false; find = false }

-- a pattern that is ready is whole, and makes one tree of a whole match
pub record IsReady (p : Prepared) : Type 0 where
  pub whole : IsWhole (bodies_of p.rules) (core_of (peg_of p.goal))
  pub root : (label : List ℕ) × IsCapture (bodies_of p.rules) label (core_of (peg_of p.goal))

-- the line of a pattern that has no program, where there is one
abbrev pub due_of : CompileFault → Option Line
due_of C.CodeTooLong = Some compile_line
due_of C.NoMemory = None

-- what is made is this plan; a refusal is one that tells its line, and any other answer says nothing of it
abbrev pub IsMade : Result Plan Unready → P.Plan → Type 0
IsMade (Ok plan) p = p ≡ plan_of plan
IsMade (Err U.NoMemory) p = Unit {0}
IsMade (Err (U.Refused line)) p = p ≡ P.refusal (string_bytes line)
IsMade (Err (U.ReadFault path)) p = Unit {0}

-- whichever is meant
abbrev pub MakesEach : Result Plan Unready → (P.Plan → Type 0) → Type 0
MakesEach result IsMeant = (p : P.Plan) → IsMeant p → IsMade result p

-- and the paths that were asked to be opened before the planning, and those after it, tell which it asked for
abbrev pub Plans : (before now : List (List ℕ)) → Result Plan Unready → P.Planned → Type 0
Plans before now result p = IsMade result p.plan × HasAsked before now result p.asked

-- What planning leaves: files that were only read. A read failed only where a count of failures rose.
pub record Leaves {F : Type 0} (S : Ghosts F) (result : Result Plan Unready) (old new : F) : Type 0 where
  pub cause : CauseIn S result old new
  pub taken : NotFewer (S.taken old) (S.taken new)
  pub tree : S.tree new ≡ S.tree old

-- no input is read
abbrev pub IsSaid : P.Plan → Type 0
IsSaid (P.Says ps) = Unit {0}
IsSaid (P.Writes bytes) = Unit {0}
IsSaid (P.Tries b trials) = Unit {0}
IsSaid (P.RunsOnInputs m whole names) = ⊥
IsSaid (P.Samples r) = Unit {0}
IsSaid (P.Replays w) = ⊥

-- what the words alone decide of a plan that is made: whether it writes a text or bytes and reads no input, whether it
-- runs no code, and the names of its inputs
abbrev pub IsText : P.Plan → Type 0
IsText (P.Says ps) = Unit {0}
IsText (P.Writes bytes) = Unit {0}
IsText _ = ⊥

abbrev pub PlansText : Result Plan Unready → Type 0
PlansText (Ok plan) = IsText (plan_of plan)
PlansText (Err u) = Unit {0}

abbrev pub PlansIdle : {E : Type 0} → Result Plan E → Type 0
PlansIdle (Ok plan) = P.IsIdlePlan (plan_of plan)
PlansIdle (Err u) = Unit {0}

abbrev pub PlansOver : {E : Type 0} → Result Plan E → List (List ℕ) → Type 0
PlansOver (Ok plan) names = P.inputs_of (plan_of plan) ≡ names
PlansOver (Err u) names = Unit {0}

abbrev pub PlansSaid : {E : Type 0} → Result Plan E → Type 0
PlansSaid (Ok plan) = IsSaid (plan_of plan)
PlansSaid (Err u) = Unit {0}

-- of the run of a pattern
abbrev pub IsTracing : Purpose → Type 0
IsTracing (R.Match settings inputs) = ⊥
IsTracing (R.Trace limit whole inputs) = Unit {0}
IsTracing (R.Sample settings seed lines) = ⊥

abbrev pub names_for : Purpose → List (List ℕ)
names_for (R.Match settings inputs) = input_names inputs
names_for (R.Trace limit whole inputs) = input_names inputs
names_for (R.Sample settings seed lines) = []

-- Only a session has the plan of one.
use Rattle.std.proofs.Common.{ℕ, ◌≡◌, ◌≢◌, Bool, true, false, cond, List, length, ◌++◌, refl, sym, subst, ⊎_elim}
use Rattle.std.specs.Prelude.{Option, Some, None, Ok, Err, nat_lt}
use Rattle.regex_class.specs.Ranges.{Range}
use Rattle.rosie_inspect.specs.Listing.{lines}
use Rattle.rosie_jobs.specs.Lines.{Job}
use Rattle.rosie_jobs.specs.Loaded.{CodeOrLine}
use Rattle.rosie_prepare.specs.Lines.{compile_line}
use Rattle.rosie_prepare.specs.Prepared.{OrLine, Ready, Tree}
use Rattle.rosie_suites.specs.Suites.{Suite}
use Rattle.rosie_words.specs.declared.command.Command.{Command}
use Rattle.rosie_words.specs.declared.command.What.{What}
use Rattle.rosie_words.specs.declared.command.What.TheVariants as W
use Rattle.rosie_words.specs.declared.settings.Settings.{Settings}
use Rattle.rpl_classes.specs.Classes.{set_named}
use Rattle.rpl_forms.specs.Rows.{Row}
use Rattle.rpl_names.specs.Roots.{Packages}
use Rattle.rosie_cli.specs.Planned.{CompilesTo, Expands, IsMatch, IsPlannedAs, IsRun, Lists, class_plan, code_plan}
use Rattle.rosie_cli.specs.Planned.{input_names, job_with, matching, plan_unless_long, sampling, test_plan, tracing}
use Rattle.rosie_cli.specs.Planned.{with_code}
use Rattle.rosie_cli.specs.Plans.{Plan, Planned, Replays, Writes, refusal, whole_answer}

abbrev pub IsNoSession : Plan → Type 0
IsNoSession (Replays w) = ⊥
IsNoSession _ = Unit {0}

by_plan : (p q : Plan) → p ≡ q → IsNoSession q → IsNoSession p
by_plan p q e h = subst IsNoSession (sym e) h

within : (b : Bool) (line : List ℕ) (plan : Plan) → IsNoSession plan → IsNoSession (cond b (refusal line) plan)
within true line plan h = tt
within false line plan h = h

run_none : (run : List Row → Job → Plan) → ((rows : List Row) (job : Job) → IsNoSession (run rows job))
    → (o : OrLine Ready) (plan : Plan) → IsRun run o plan → IsNoSession plan
run_none run none (Err line) plan h = by_plan plan (refusal line) h tt
run_none run none (Ok r) plan h =
    let job = job_with r h.0 in
    by_plan plan (plan_unless_long (run r.rules job) h.0) h.2
    (within (nat_lt 1048576 (length h.0)) compile_line (run r.rules job) (none r.rules job))

code_none : (s : Settings) (names : List (List ℕ)) (o : CodeOrLine) → IsNoSession (code_plan s names o)
code_none s names (Err line) = tt
code_none s names (Ok code) = tt

match_none : (c : Command) (o : Option (List ℕ)) (pattern : List ℕ) (inputs : List (List ℕ)) (tree : Tree)
    (p : Planned) → IsMatch c o pattern inputs tree p → IsNoSession p.plan
match_none c None pattern inputs tree p is =
    run_none (matching c.settings inputs) (λ rows job. tt) is.ready p.plan is.runs
match_none c (Some path) pattern inputs tree p is =
    by_plan p.plan (code_plan c.settings (input_names inputs) is.loaded) is.runs
    (code_none c.settings (input_names inputs) is.loaded)

class_none : (name : List ℕ) (o : Option (List Range)) → IsNoSession (class_plan name o)
class_none name None = tt
class_none name (Some ranges) = tt

test_none : (o : OrLine Suite) → IsNoSession (test_plan o)
test_none (Err line) = tt
test_none (Ok s) = tt

list_none : (o : OrLine Packages) (plan : Plan) → Lists o plan → IsNoSession plan
list_none (Err line) plan h = by_plan plan (refusal line) h tt
list_none (Ok packages) plan h = by_plan plan (whole_answer h.0) h.2 tt

expand_none : (wants_code : Bool) (o : OrLine Ready) (plan : Plan) → Expands wants_code o plan → IsNoSession plan
expand_none wants_code (Err line) plan h = by_plan plan (refusal line) h tt
expand_none false (Ok r) plan h = by_plan plan (whole_answer h.0) h.2 tt
expand_none true (Ok r) plan h =
    by_plan plan (with_code h.0 h.2.0) h.2.2
    (within (nat_lt 1048576 (length h.2.0)) compile_line (whole_answer (h.0 ++ lines 0 h.2.0)) tt)

compile_none : (o : OrLine Ready) (plan : Plan) → CompilesTo o plan → IsNoSession plan
compile_none (Err line) plan h = by_plan plan (refusal line) h tt
compile_none (Ok r) plan h = ⊎_elim
    (λ long. by_plan plan (refusal compile_line) long.1 tt)
    (λ of. by_plan plan (Writes of.0) of.2 tt)
    h.2

pub planned_none : (c : Command) (what : What) (tree : Tree) (p : Planned) → what ≢ W.Repl → IsPlannedAs c what tree p
    → IsNoSession p.plan
planned_none c (W.Match pattern inputs) tree p none is = match_none c c.code_file pattern inputs tree p is
planned_none c (W.Grep pattern inputs) tree p none is =
    run_none (matching c.settings inputs) (λ rows job. tt) is.ready p.plan is.runs
planned_none c (W.Test file) tree p none is = by_plan p.plan (test_plan is.suite) is.tries (test_none is.suite)
planned_none c (W.Class name) tree p none is =
    subst (λ (q : Planned). IsNoSession q.plan) (sym is) (class_none name (set_named name))
planned_none c W.List tree p none is = list_none is.packages p.plan is.lists
planned_none c (W.Expand pattern) tree p none is = expand_none c.code is.ready p.plan is.expands
planned_none c (W.Compile pattern) tree p none is = compile_none is.ready p.plan is.compiles
planned_none c (W.Trace pattern inputs) tree p none is =
    run_none (tracing c.limit c.settings.whole inputs) (λ rows job. tt) is.ready p.plan is.runs
planned_none c (W.Sample seed lines) tree p none is =
    run_none (sampling c.settings seed lines) (λ rows job. tt) is.ready p.plan is.runs
planned_none c W.Repl tree p none is = absurd (none refl)

-- No line and no test passes a budget that pays for it, each goal means something on every text, and a written code is
-- safe, by the definitions alone.
use Rattle.std.proofs.Common.{ℕ, ◌≡◌, Bool, true, false, cond, List, length, ◌++◌, sym, subst, ⊎_elim}
use Rattle.std.specs.Prelude.{Option, Some, None, Ok, Err, nat_lt, encode_utf8_all}
use Rattle.regex_class.specs.Ranges.{Range}
use Rattle.rosie_jobs.specs.Budgets as J
use Rattle.rosie_jobs.specs.Lines.{Job}
use Rattle.rosie_jobs.specs.Loaded as L
use Rattle.rosie_words.specs.declared.settings.Settings.{Settings}
use Rattle.rosie_prepare.specs.Lines.{compile_line}
use Rattle.rosie_prepare.specs.Prepared.{IsPrepared, OrLine, Ready, Tree, PatternRequest, bodies}
use Rattle.rosie_session.proofs.Paying.{fit_prepared, pays_code, pays_holds}
use Rattle.rosie_inspect.specs.Listing.{lines}
use Rattle.rosie_suites.specs.Suites.{IsSuite, Suite}
use Rattle.rosie_words.specs.declared.command.Command.{Command}
use Rattle.rosie_words.specs.declared.command.What.{What}
use Rattle.rosie_words.specs.declared.command.What.TheVariants as W
use Rattle.rpl_classes.specs.Classes.{set_named}
use Rattle.rpl_forms.specs.Rows.{Row}
use Rattle.rpl_names.specs.Roots.{Packages}
use Rattle.rosie_cli.specs.Planned.{class_plan, IsCodeLines, code_plan, IsMatch, IsPlannedAs, IsRun}
use Rattle.rosie_cli.specs.Planned.{IsRunning, input_names, job_with, matching, sample_request, sampling, tracing}
use Rattle.rosie_cli.specs.Planned.{pattern_request, plan_unless_long, CompilesTo, IsCompiled, Expands, with_code}
use Rattle.rosie_cli.specs.Planned.{Lists, test_plan, IsReplayed}
use Rattle.rosie_cli.specs.Laws.{PromiseLaw}
use Rattle.rosie_cli.specs.Plans.{Plan, Planned, Writes, refusal, whole_answer}
use Rattle.rosie_cli.specs.Promises.{HasMeaning, IsPromised}
use Rattle.rosie_cli.specs.Words.{Refuse, Do}
use Rattle.rosie_cli.proofs.Coded.{code_is_safe}
use Rattle.rosie_cli.proofs.Meant.{meaning_of, tries_mean}
use Rattle.rosie_cli.proofs.Tested.{suite_good}

-- a plan that is another
by_plan : (p q : Plan) → p ≡ q → IsPromised q → IsPromised p
by_plan p q e h = subst IsPromised (sym e) h

within : (b : Bool) (line : List ℕ) (plan : Plan) → IsPromised plan → IsPromised (cond b (refusal line) plan)
within true line plan h = tt
within false line plan h = h

-- ---- what runs a pattern

module _ (run : List Row → Job → Plan)
    (good : (rows : List Row) (job : Job) → ((s : Settings) → J.PaysFor s job) → HasMeaning job
    → IsPromised (run rows job)) where
  pays_ready : (w : PatternRequest) (tree : Tree) (asked : List (List ℕ)) (o : OrLine Ready) (plan : Plan)
      → IsPrepared tree w asked o → IsRun run o plan → IsPromised plan
  pays_ready w tree asked (Err line) plan is runs = by_plan plan (refusal line) runs tt
  pays_ready w tree asked (Ok r) plan is runs =
      let fit = fit_prepared tree w asked r is in
      let job = job_with r runs.0 in
      by_plan plan (plan_unless_long (run r.rules job) runs.0) runs.2
      (within (nat_lt 1048576 (length runs.0)) compile_line (run r.rules job)
      (good r.rules job (λ s. pays_code s (bodies r.rules) r.goal runs.0 fit.whole runs.1)
      (meaning_of (bodies r.rules) r.goal runs.0 fit.whole fit.root)))

  pays_running : (w : PatternRequest) (tree : Tree) (p : Planned) → IsRunning run w tree p → IsPromised p.plan
  pays_running w tree p is = pays_ready w tree p.asked is.ready p.plan is.prepares is.runs

pays_match : (s : Settings) (inputs : List (List ℕ)) (w : PatternRequest) (tree : Tree) (p : Planned)
    → IsRunning (matching s inputs) w tree p → IsPromised p.plan
pays_match s inputs w tree p is = pays_running (matching s inputs) (λ rows job h means. (h s, means)) w tree p is

pays_trace : (limit : ℕ) (whole : Bool) (inputs : List (List ℕ)) (w : PatternRequest) (tree : Tree) (p : Planned)
    → IsRunning (tracing limit whole inputs) w tree p → IsPromised p.plan
pays_trace limit whole inputs w tree p is =
    pays_running (tracing limit whole inputs) (λ rows job h means. (tt, means)) w tree p is

pays_sample : (s : Settings) (seed lines : ℕ) (w : PatternRequest) (tree : Tree) (p : Planned)
    → IsRunning (sampling s seed lines) w tree p → IsPromised p.plan
pays_sample s seed lines w tree p is =
    pays_running (sampling s seed lines) (λ rows job h means. (h s, means)) w tree p is

-- ---- the others

pays_loaded : (s : Settings) (names : List (List ℕ)) (o : L.CodeOrLine) → IsPromised (code_plan s names o)
pays_loaded s names (Err line) = tt
pays_loaded s names (Ok code) = (tt, tt)

pays_file : (s : Settings) (path : List ℕ) (names : List (List ℕ)) (tree : Tree) (p : Planned)
    → IsCodeLines s path names tree p → IsPromised p.plan
pays_file s path names tree p is = by_plan p.plan (code_plan s names is.loaded) is.runs (pays_loaded s names is.loaded)

pays_named : (o : OrLine Packages) (plan : Plan) → Lists o plan → IsPromised plan
pays_named (Err line) plan h = by_plan plan (refusal line) h tt
pays_named (Ok packages) plan h = by_plan plan (whole_answer h.0) h.2 tt

pays_class : (name : List ℕ) (o : Option (List Range)) → IsPromised (class_plan name o)
pays_class name None = tt
pays_class name (Some ranges) = tt

pays_shown : (wants_code : Bool) (o : OrLine Ready) (plan : Plan) → Expands wants_code o plan → IsPromised plan
pays_shown wants_code (Err line) plan h = by_plan plan (refusal line) h tt
pays_shown false (Ok r) plan h = by_plan plan (whole_answer h.0) h.2 tt
pays_shown true (Ok r) plan h =
    let code = h.2.0 in
    by_plan plan (with_code h.0 code) h.2.2
    (within (nat_lt 1048576 (length code)) compile_line (whole_answer (h.0 ++ lines 0 code)) tt)

pays_compiled : (w : PatternRequest) (tree : Tree) (p : Planned) → IsCompiled w tree p → (o : OrLine Ready)
    → CompilesTo o p.plan → IsPromised p.plan
pays_compiled w tree p is (Err line) h = by_plan p.plan (refusal line) h tt
pays_compiled w tree p is (Ok r) h = ⊎_elim
    (λ long. by_plan p.plan (refusal compile_line) long.1 tt)
    (λ of. by_plan p.plan (Writes of.0) of.2 (code_is_safe w tree p of.0 is of.2))
    h.2

pays_tests : (folders : List (List ℕ)) (file : List ℕ) (budget : Option ℕ) (tree : Tree) (p : Planned)
    (o : OrLine Suite) → IsSuite tree folders file budget p.asked o → p.plan ≡ test_plan o → IsPromised p.plan
pays_tests folders file budget tree p (Err line) comes e = by_plan p.plan (refusal line) e tt
pays_tests folders file budget tree p (Ok s) comes e =
    by_plan p.plan (test_plan (Ok s)) e (suite_good tree folders file budget p.asked s comes)

pub pays_session : (folders : List (List ℕ)) (tree : Tree) (p : Planned) → IsReplayed folders tree p → IsPromised p.plan
pays_session folders tree p is =
    subst (λ (q : Planned). IsPromised q.plan) (sym is.plan)
    (pays_holds tree folders is.loading is.loads, tries_mean tree folders is.loading is.loads)

pays_matched : (c : Command) (o : Option (List ℕ)) (pattern : List ℕ) (inputs : List (List ℕ)) (tree : Tree)
    (p : Planned) → IsMatch c o pattern inputs tree p → IsPromised p.plan
pays_matched c None pattern inputs tree p is =
    pays_match c.settings inputs (pattern_request c pattern false) tree p is
pays_matched c (Some path) pattern inputs tree p is =
    pays_file c.settings (encode_utf8_all path) (input_names inputs) tree p is

pub pays_planned : (c : Command) (what : What) (tree : Tree) (p : Planned) → IsPlannedAs c what tree p
    → IsPromised p.plan
pays_planned c (W.Match pattern inputs) tree p is = pays_matched c c.code_file pattern inputs tree p is
pays_planned c (W.Grep pattern inputs) tree p is =
    pays_match c.settings inputs (pattern_request c pattern true) tree p is
pays_planned c (W.Test file) tree p is = pays_tests c.folders file c.settings.budget tree p is.suite is.comes is.tries
pays_planned c (W.Class name) tree p is =
    subst (λ (q : Planned). IsPromised q.plan) (sym is) (pays_class name (set_named name))
pays_planned c W.List tree p is = pays_named is.packages p.plan is.lists
pays_planned c (W.Expand pattern) tree p is = pays_shown c.code is.ready p.plan is.expands
pays_planned c (W.Compile pattern) tree p is =
    pays_compiled (pattern_request c pattern false) tree p is is.ready is.compiles
pays_planned c (W.Trace pattern inputs) tree p is =
    pays_trace c.limit c.settings.whole inputs (pattern_request c pattern false) tree p is
pays_planned c (W.Sample seed lines) tree p is =
    pays_sample c.settings seed lines (sample_request c.folders) tree p is
pays_planned c W.Repl tree p is = pays_session c.folders tree p is

pub promise_holds : PromiseLaw
promise_holds (Refuse text) tree p is = subst (λ (q : Planned). IsPromised q.plan) (sym is) tt
promise_holds (Do c) tree p is = pays_planned c c.what tree p is

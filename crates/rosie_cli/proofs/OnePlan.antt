-- The words come to one thing alone.
use Rattle.std.proofs.Common.{ℕ, ◌≡◌, ◌<◌, Bool, true, false, List, length, sym, ◌∙◌, ap, subst, arith, ⊎_elim}
use Rattle.std.proofs.lemmas.List.{length-map}
use Rattle.std.specs.Prelude.{Ok, Err, Option, Some, None, encode_utf8_all}
use Rattle.rosie_jobs.proofs.One.{one_loading_holds}
use Rattle.rosie_io.specs.Opening.{file_of}
use Rattle.rosie_jobs.specs.Lines.{Job}
use Rattle.rosie_words.specs.declared.settings.Settings.{Settings}
use Rattle.rosie_prepare.specs.Prepared.{Tree, PatternRequest, Ready, OrLine, bodies}
use Rattle.rosie_prepare.proofs.OneAnswer.{one_answer, one_table}
use Rattle.rosie_inspect.proofs.Rows.{one_pattern_text}
use Rattle.rosie_inspect.proofs.Texts.{one_text}
use Rattle.rosie_suites.proofs.Once.{one_suite}
use Rattle.rosie_words.specs.declared.command.Command.{Command}
use Rattle.rosie_words.specs.declared.command.What.{What}
use Rattle.rosie_words.specs.declared.command.What.TheVariants as W
use Rattle.rpl_codefile.proofs.One.{one_spelling_holds}
use Rattle.rpl_codefile.specs.Spelling.{Spells}
use Rattle.rpl_core.proofs.Codes.{code_holds}
use Rattle.rpl_core.specs.Instr.{Instr}
use Rattle.rpl_core.specs.Numbers.{instr_of}
use Rattle.rpl_names.specs.Loading.{world}
use Rattle.rpl_names.specs.Names.{all_listed}
use Rattle.rpl_names.specs.Roots.{Packages, load}
use Rattle.rpl_names.specs.declared.roots.Root.{Root}
use Rattle.rpl_forms.specs.Rows.{Row}
use Rattle.rosie_cli.specs.Planned.{IsCodeLines, code_plan, input_names, job_with, matching}
use Rattle.rosie_cli.specs.Planned.{sample_request, sampling, tracing, pattern_request, plan_unless_long, IsMatch}
use Rattle.rosie_cli.specs.Planned.{IsPlannedAs, IsRun, IsRunning, CompilesTo, IsCompiled, IsWritten, Expands}
use Rattle.rosie_cli.specs.Planned.{IsExpanded, with_code, IsListed, Lists, IsTesting, test_plan}
use Rattle.rosie_cli.specs.Laws.{OnePlan}
use Rattle.rosie_cli.specs.Plans.{Plan, Planned, Writes, whole_answer}
use Rattle.rosie_cli.specs.Words.{Refuse, Do}
use Rattle.rosie_cli.proofs.Replayed.{one_replayed}

-- a goal has one code, and so what a pattern comes to has one plan
one_run : (run : List Row → Job → Plan) (r : OrLine Ready) (p q : Plan) → IsRun run r p → IsRun run r q → p ≡ q
one_run run (Err line) p q x y = x ∙ sym y
one_run run (Ok r) p q x y =
    x.2 ∙ ap (λ c. plan_unless_long (run r.rules (job_with r c)) c) (code_holds (bodies r.rules) r.goal x.0 y.0 x.1 y.1)
    ∙ sym y.2

one_shown : (wants_code : Bool) (r : OrLine Ready) (p q : Plan) → Expands wants_code r p → Expands wants_code r q
    → p ≡ q
one_shown wants_code (Err line) p q x y = x ∙ sym y
one_shown false (Ok r) p q x y =
    x.2 ∙ ap whole_answer (one_pattern_text r.rules r.expr r.goal x.0 y.0 x.1 y.1) ∙ sym y.2
one_shown true (Ok r) p q x y =
    let a = x.2 in let b = y.2 in
    a.2 ∙ ap (λ t. with_code t a.0) (one_pattern_text r.rules r.expr r.goal x.0 y.0 x.1 y.1)
    ∙ ap (with_code y.0) (code_holds (bodies r.rules) r.goal a.0 b.0 a.1 b.1) ∙ sym b.2

one_names : (o : OrLine Packages) (p q : Plan) → Lists o p → Lists o q → p ≡ q
one_names (Err line) p q x y = x ∙ sym y
one_names (Ok packages) p q x y = x.2 ∙ ap whole_answer (one_text (all_listed packages) x.0 y.0 x.1 y.1) ∙ sym y.2

-- a code is too long, or it has one spelling
one_file : (ins : List Instr) (p q : Plan) → IsWritten ins p → IsWritten ins q → p ≡ q
one_file ins p q x y = ⊎_elim
    (λ long. ⊎_elim (λ k. long.1 ∙ sym k.1) (λ k. absurd (longer long.0 k.1)) y)
    (λ h. ⊎_elim (λ long. absurd (longer long.0 h.1))
    (λ k. h.2 ∙ ap Writes (one_spelling_holds ins h.0 k.0 h.1 k.1) ∙ sym k.2) y)
    x
  where
    longer : {bytes : List ℕ} → 1048576 < length ins → Spells ins bytes → ⊥
    longer long s = omega (
      arith,
      s.is_file.limit,
      ap length s.code_is,
      length-map s.file.code (instr_of s.file.sets s.file.texts),
      long,
    )

one_compiled : (r : OrLine Ready) (p q : Plan) → CompilesTo r p → CompilesTo r q → p ≡ q
one_compiled (Err line) p q x y = x ∙ sym y
one_compiled (Ok r) p q x y =
    one_file y.0 p q (subst (λ c. IsWritten c p) (code_holds (bodies r.rules) r.goal x.0 y.0 x.1 y.1) x.2) y.2

planned_with : List (List ℕ) → Plan → Planned
planned_with asked plan = record { asked = asked; plan = plan }

planned_same : (p q : Planned) → p.asked ≡ q.asked → p.plan ≡ q.plan → p ≡ q
unfolding planned_with
planned_same p q e f = ap (λ x. planned_with x p.plan) e ∙ ap (planned_with q.asked) f

-- the plans
one_running : (run : List Row → Job → Plan) (w : PatternRequest) (tree : Tree) (p q : Planned) → IsRunning run w tree p
    → IsRunning run w tree q → p ≡ q
one_running run w tree p q x y =
    let same = one_answer tree w p.asked q.asked x.ready y.ready x.prepares y.prepares in
    let runs = subst (λ r. IsRun run r q.plan) (sym same.1) y.runs in
    planned_same p q same.0 (one_run run x.ready p.plan q.plan x.runs runs)

one_expanded : (w : PatternRequest) (wants_code : Bool) (tree : Tree) (p q : Planned) → IsExpanded w wants_code tree p
    → IsExpanded w wants_code tree q → p ≡ q
one_expanded w wants_code tree p q x y =
    let same = one_answer tree w p.asked q.asked x.ready y.ready x.prepares y.prepares in
    let expands = subst (λ r. Expands wants_code r q.plan) (sym same.1) y.expands in
    planned_same p q same.0 (one_shown wants_code x.ready p.plan q.plan x.expands expands)

one_code_file : (w : PatternRequest) (tree : Tree) (p q : Planned) → IsCompiled w tree p → IsCompiled w tree q → p ≡ q
one_code_file w tree p q x y =
    let same = one_answer tree w p.asked q.asked x.ready y.ready x.prepares y.prepares in
    let compiles = subst (λ r. CompilesTo r q.plan) (sym same.1) y.compiles in
    planned_same p q same.0 (one_compiled x.ready p.plan q.plan x.compiles compiles)

one_code_run : (s : Settings) (path : List ℕ) (names : List (List ℕ)) (tree : Tree) (p q : Planned)
    → IsCodeLines s path names tree p → IsCodeLines s path names tree q → p ≡ q
one_code_run s path names tree p q x y =
    let same = one_loading_holds path (file_of path tree) x.loaded y.loaded x.loads y.loads in
    planned_same p q (x.asks ∙ sym y.asks) (x.runs ∙ ap (code_plan s names) same ∙ sym y.runs)

one_match : (c : Command) (file : Option (List ℕ)) (pattern : List ℕ) (inputs : List (List ℕ)) (tree : Tree)
    (p q : Planned) → IsMatch c file pattern inputs tree p → IsMatch c file pattern inputs tree q → p ≡ q
one_match c None pattern inputs tree p q x y =
    one_running (matching c.settings inputs) (pattern_request c pattern false) tree p q x y
one_match c (Some path) pattern inputs tree p q x y =
    one_code_run c.settings (encode_utf8_all path) (input_names inputs) tree p q x y

one_listed : (roots : List Root) (folders : List (List ℕ)) (tree : Tree) (p q : Planned) → IsListed roots folders tree p
    → IsListed roots folders tree q → p ≡ q
one_listed roots folders tree p q x y =
    let same = one_table (load (world tree folders) roots).answer x.packages y.packages x.comes y.comes in
    let lists = subst (λ o. Lists o q.plan) (sym same) y.lists in
    planned_same p q (x.asked ∙ sym y.asked) (one_names x.packages p.plan q.plan x.lists lists)

one_tested : (folders : List (List ℕ)) (file : List ℕ) (budget : Option ℕ) (tree : Tree) (p q : Planned)
    → IsTesting folders file budget tree p → IsTesting folders file budget tree q → p ≡ q
one_tested folders file budget tree p q x y =
    let same = one_suite tree folders file budget p.asked q.asked x.suite y.suite x.comes y.comes in
    planned_same p q same.0 (x.tries ∙ ap test_plan same.1 ∙ sym y.tries)

one_what : (c : Command) (what : What) (tree : Tree) (p q : Planned) → IsPlannedAs c what tree p
    → IsPlannedAs c what tree q → p ≡ q
one_what c (W.Match pattern inputs) tree p q x y = one_match c c.code_file pattern inputs tree p q x y
one_what c (W.Grep pattern inputs) tree p q x y =
    one_running (matching c.settings inputs) (pattern_request c pattern true) tree p q x y
one_what c (W.Test file) tree p q x y = one_tested c.folders file c.settings.budget tree p q x y
one_what c W.List tree p q x y = one_listed c.roots c.folders tree p q x y
one_what c (W.Expand pattern) tree p q x y = one_expanded (pattern_request c pattern false) c.code tree p q x y
one_what c (W.Compile pattern) tree p q x y = one_code_file (pattern_request c pattern false) tree p q x y
one_what c (W.Trace pattern inputs) tree p q x y =
    one_running (tracing c.limit c.settings.whole inputs) (pattern_request c pattern false) tree p q x y
one_what c (W.Sample seed lines) tree p q x y =
    one_running (sampling c.settings seed lines) (sample_request c.folders) tree p q x y
one_what c W.Repl tree p q x y = one_replayed c.folders tree p q x y
one_what c (W.Class name) tree p q x y = x ∙ sym y

pub one_plan : OnePlan
one_plan (Refuse text) tree p q x y = x ∙ sym y
one_plan (Do c) tree p q x y = one_what c c.what tree p q x y

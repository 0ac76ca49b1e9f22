-- The words come to something over each tree of files.
use Rattle.std.proofs.Common.{ℕ, Bool, true, false, List, [], ◌∷◌, ◌++◌, length, refl, inl, inr, ⊎_elim, arith}
use Rattle.std.specs.Prelude.{Ok, Err, Option, Some, None, IsUtf8, map, encode_utf8_all}
use Rattle.std.specs.Cmp.Lexicographic.{slice_cmp}
use Rattle.std.specs.List.{All, concat}
use Rattle.std.specs.Ordering.{is_lt, nat_cmp}
use Rattle.std.proofs.lemmas.Bool.{cases_lt}
use Rattle.std.proofs.lemmas.Cmp.{nat_list_cmp_total}
use Rattle.std.proofs.lemmas.List.Sorted.{ranks_by}
use Rattle.rosie_io.specs.Opening.{file_of}
use Rattle.rosie_jobs.proofs.SomeLoading.{some_loading}
use Rattle.rosie_jobs.specs.Lines.{Job}
use Rattle.rosie_words.specs.declared.settings.Settings.{Settings}
use Rattle.rosie_prepare.specs.Lines.{compile_line}
use Rattle.rosie_prepare.specs.Prepared.{IsPrepared, Tree, PatternRequest, Ready, OrLine, bodies}
use Rattle.rosie_prepare.proofs.SomeAnswer.{some_answer, some_table}
use Rattle.rpl_forms.specs.Table.{full_names}
use Rattle.rosie_inspect.specs.Expansions as E
use Rattle.rosie_inspect.specs.Expansions.{IsExpansion}
use Rattle.rosie_inspect.specs.Names.{name_line, IsNamesText}
use Rattle.rosie_session.proofs.Paying.{fit_prepared}
use Rattle.rosie_suites.proofs.Some.{some_suite}
use Rattle.rosie_words.specs.declared.command.Command.{Command}
use Rattle.rosie_words.specs.declared.command.What.{What}
use Rattle.rosie_words.specs.declared.command.What.TheVariants as W
use Rattle.rpl_classes.specs.Classes.{set_named}
use Rattle.rpl_codefile.proofs.Fitting.{compiled_can_be_spelled}
use Rattle.rpl_codefile.proofs.Making.{has_spelling_holds}
use Rattle.rpl_codefile.specs.Compiled.{IsFit}
use Rattle.rpl_core.specs.Core.{Core}
use Rattle.rpl_core.specs.Instr.{Instr}
use Rattle.rpl_core.specs.Marked.{CallsAreRules}
use Rattle.rpl_core.specs.Programs.{IsCode}
use Rattle.rpl_names.specs.Loading.{world}
use Rattle.rpl_names.specs.Names.{all_listed}
use Rattle.rpl_names.specs.Roots.{Packages, load}
use Rattle.rpl_names.specs.declared.names.Listed.{Listed}
use Rattle.rpl_names.specs.declared.roots.Root.{Root}
use Rattle.rpl_forms.specs.Rows.{Row}
use Rattle.rosie_cli.specs.Planned.{class_plan, IsCodeLines, code_plan, input_names, job_with, matching}
use Rattle.rosie_cli.specs.Planned.{sample_request, sampling, tracing, pattern_request, plan_unless_long, IsMatch}
use Rattle.rosie_cli.specs.Planned.{IsPlannedAs, IsRun, IsRunning, CompilesTo, IsCompiled, IsWritten, Expands}
use Rattle.rosie_cli.specs.Planned.{IsExpanded, with_code, IsListed, Lists, IsTesting, test_plan}
use Rattle.rosie_cli.specs.Laws.{HasCharacters, SomePlan, WordsHavePlans}
use Rattle.rosie_cli.specs.Plans.{Plan, Planned, Writes, refusal, whole_answer}
use Rattle.rosie_cli.specs.Words.{Refuse, Do, command_line}
use Rattle.rosie_cli.proofs.Characters.{words_have}
use Rattle.rosie_cli.proofs.Fitted.{ready_fit}
use Rattle.rosie_cli.proofs.Replayed.{some_replayed}
use Rattle.rosie_cli.proofs.SomeMarks.{some_code, some_marks}
use Rattle.rosie_cli.proofs.SomeOrder.{some_order}

-- what a pattern comes to has a plan
some_run : (run : List Row → Job → Plan) (r : OrLine Ready) → (p : Plan) × IsRun run r p
some_run run (Err line) = (refusal line, refl)
some_run run (Ok r) =
    let c = some_code (bodies r.rules) r.goal in
    (plan_unless_long (run r.rules (job_with r c.0)) c.0, (c.0, c.1, refl))

-- a code is too long, or it is spelled
some_file : (R : List Core) (g : Core) (ins : List Instr) → IsCode R g ins → CallsAreRules R g → All IsFit R → IsFit g
    → (p : Plan) × IsWritten ins p
some_file R g ins is are rules goal = ⊎_elim
    (λ long. (refusal compile_line, inl (long, refl)))
    (λ fits.
    let spelled = compiled_can_be_spelled R g ins is are rules goal (omega (arith, fits)) in
    let bytes = (has_spelling_holds ins).0 spelled in
    (Writes bytes.0, inr (bytes.0, bytes.1, refl)))
    (cases_lt 1048576 (length ins))

some_code_file : (w : PatternRequest) (tree : Tree) (asked : List (List ℕ)) (r : OrLine Ready) → IsUtf8 w.text
    → IsPrepared tree w asked r → (p : Plan) × CompilesTo r p
some_code_file w tree asked (Err line) utf8 is = (refusal line, refl)
some_code_file w tree asked (Ok r) utf8 is =
    let c = some_code (bodies r.rules) r.goal in
    let whole = (fit_prepared tree w asked r is).whole in
    let are : CallsAreRules (bodies r.rules) r.goal =
    record { goal = whole.goal; rules = λ q d at k h. whole.rules q k d at h } in
    let can = ready_fit tree w asked r utf8 is in
    let f = some_file (bodies r.rules) r.goal c.0 c.1 are can.0 can.1 in
    (f.0, (c.0, c.1, f.1))

some_expansion : (r : Ready) → (text : List ℕ) × IsExpansion r.rules r.expr r.goal text
some_expansion r =
    let m = some_marks (bodies r.rules) r.goal in (
      E.pattern_lines (full_names r.rules) r.expr r.goal ++ E.rule_lines (full_names r.rules) m.0 0 r.rules,
      record { marks = m.0; exact = m.1; same = refl },
    )

some_shown : (wants_code : Bool) (r : OrLine Ready) → (p : Plan) × Expands wants_code r p
some_shown wants_code (Err line) = (refusal line, refl)
some_shown false (Ok r) = let t = some_expansion r in (whole_answer t.0, (t.0, t.1, refl))
some_shown true (Ok r) =
    let t = some_expansion r in
    let c = some_code (bodies r.rules) r.goal in (with_code t.0 c.0, (t.0, t.1, (c.0, c.1, refl)))

-- and so do packages
some_text : (names : List Listed) → (text : List ℕ) × IsNamesText names text
some_text names =
    let s = some_order (λ x y. is_lt (slice_cmp nat_cmp x y)) (ranks_by nat_list_cmp_total (λ (x : List ℕ). x))
    (map name_line names) in
    (concat s.0, record { lines = s.0; members = s.1; order = s.2; same = refl })

some_names : (o : OrLine Packages) → (p : Plan) × Lists o p
some_names (Err line) = (refusal line, refl)
some_names (Ok packages) = let t = some_text (all_listed packages) in (whole_answer t.0, (t.0, t.1, refl))

-- the plans
running_some : (run : List Row → Job → Plan) (w : PatternRequest) (tree : Tree) → (p : Planned) × IsRunning run w tree p
running_some run w tree =
    let r = some_answer tree w in
    let p = some_run run r.1 in
    (record { asked = r.0; plan = p.0 }, record { ready = r.1; prepares = r.2; runs = p.1 })

expanded_some : (w : PatternRequest) (wants_code : Bool) (tree : Tree) → (p : Planned) × IsExpanded w wants_code tree p
expanded_some w wants_code tree =
    let r = some_answer tree w in
    let p = some_shown wants_code r.1 in
    (record { asked = r.0; plan = p.0 }, record { ready = r.1; prepares = r.2; expands = p.1 })

compiled_some : (w : PatternRequest) (tree : Tree) → IsUtf8 w.text → (p : Planned) × IsCompiled w tree p
compiled_some w tree utf8 =
    let r = some_answer tree w in
    let p = some_code_file w tree r.0 r.1 utf8 r.2 in
    (record { asked = r.0; plan = p.0 }, record { ready = r.1; prepares = r.2; compiles = p.1 })

listed_some : (roots : List Root) (folders : List (List ℕ)) (tree : Tree) → (p : Planned)
    × IsListed roots folders tree p
listed_some roots folders tree =
    let t = some_table tree folders roots in
    let p = some_names t.0 in (
      record { asked = map encode_utf8_all (load (world tree folders) roots).asked; plan = p.0 },
      record { packages = t.0; asked = refl; comes = t.1; lists = p.1 },
    )

tested_some : (folders : List (List ℕ)) (file : List ℕ) (budget : Option ℕ) (tree : Tree)
    → (p : Planned) × IsTesting folders file budget tree p
tested_some folders file budget tree =
    let s = some_suite some_code tree folders file budget in
    (record { asked = s.0; plan = test_plan s.1 }, record { suite = s.1; comes = s.2; tries = refl })

code_some : (s : Settings) (path : List ℕ) (names : List (List ℕ)) (tree : Tree)
    → (p : Planned) × IsCodeLines s path names tree p
code_some s path names tree =
    let r = some_loading path (file_of path tree) in (
      record { asked = path ∷ []; plan = code_plan s names r.0 },
      record { loaded = r.0; loads = r.1; asks = refl; runs = refl },
    )

match_some : (c : Command) (file : Option (List ℕ)) (pattern : List ℕ) (inputs : List (List ℕ)) (tree : Tree)
    → (p : Planned) × IsMatch c file pattern inputs tree p
match_some c None pattern inputs tree =
    running_some (matching c.settings inputs) (pattern_request c pattern false) tree
match_some c (Some path) pattern inputs tree =
    code_some c.settings (encode_utf8_all path) (input_names inputs) tree

what_some : (c : Command) (what : What) (tree : Tree) → HasCharacters what → (p : Planned) × IsPlannedAs c what tree p
what_some c (W.Match pattern inputs) tree e = match_some c c.code_file pattern inputs tree
what_some c (W.Compile pattern) tree e = compiled_some (pattern_request c pattern false) tree (pattern, (e, refl))
what_some c (W.Grep pattern inputs) tree e =
    running_some (matching c.settings inputs) (pattern_request c pattern true) tree
what_some c (W.Test file) tree e = tested_some c.folders file c.settings.budget tree
what_some c (W.Class name) tree e = (record { asked = []; plan = class_plan name (set_named name) }, refl)
what_some c W.List tree e = listed_some c.roots c.folders tree
what_some c (W.Expand pattern) tree e = expanded_some (pattern_request c pattern false) c.code tree
what_some c (W.Trace pattern inputs) tree e =
    running_some (tracing c.limit c.settings.whole inputs) (pattern_request c pattern false) tree
what_some c (W.Sample seed lines) tree e =
    running_some (sampling c.settings seed lines) (sample_request c.folders) tree
what_some c W.Repl tree e = some_replayed c.folders tree

pub some_plan : SomePlan
some_plan (Refuse text) tree e = (record { asked = []; plan = refusal text }, refl)
some_plan (Do c) tree e = what_some c c.what tree e

pub words_have_plans : WordsHavePlans
words_have_plans words tree utf8 = some_plan (command_line words) tree (words_have words utf8)

-- The plan of a code file, and what it makes of the lines: what the pattern makes of them that was compiled.
use Rattle.std.proofs.Common.{◌≡◌, ◌+◌, ◌≤◌, ℕ, Bool, true, false, cond, List, [], ◌∷◌, ◌++◌, length}
use Rattle.std.proofs.Common.{refl, sym, ap, subst, ◌∙◌, inr, ⊎_elim, arith}
use Rattle.std.specs.Prelude.{Option, Ok, Err, None, Some, codes, nat_lt, string_bytes}
use Rattle.std.specs.Str.{is_utf8}
use Rattle.std.proofs.lemmas.List.{length-map}
use Rattle.rosie_io.specs.Lines.{lines}
use Rattle.rosie_io.specs.Opening.{file_of}
use Rattle.rosie_jobs.proofs.Alike.{runs_as_its_goal}
use Rattle.rosie_jobs.proofs.One.{one_loading_holds}
use Rattle.rosie_jobs.specs.Answers.{Loads}
use Rattle.rosie_jobs.specs.Lines.{Job, code_makes, match_makes, line_reading}
use Rattle.rosie_jobs.specs.Loaded.{IsLoaded, CodeOrLine, max_code_bytes}
use Rattle.rosie_jobs.specs.Makers.{Matches, RunsCode}
use Rattle.rosie_jobs.specs.Meant.{IsMeant}
use Rattle.rosie_words.specs.declared.settings.Settings.{Settings}
use Rattle.rosie_prepare.proofs.OneAnswer.{one_answer}
use Rattle.rosie_prepare.specs.Lines.{compile_line}
use Rattle.rosie_prepare.specs.Prepared.{IsPrepared, OrLine as OrRefused, Ready, Tree, PatternRequest, bodies}
use Rattle.rosie_run.specs.Inputs.{file_pieces, inputs_pieces, is_standard, left_after, one_pieces}
use Rattle.rosie_run.specs.Lines.{Makes, input_pieces, line_message, line_piece, pieces_from}
use Rattle.rosie_run.specs.Report.{Piece, fault_piece, up_to_stop}
use Rattle.rosie_run.specs.Unready.{HasAsked}
use Rattle.rosie_run.specs.declared.lines.Reading.{Reading}
use Rattle.rosie_run.specs.declared.unready.Unready.{Unready}
use Rattle.rosie_run.specs.declared.unready.Unready.TheVariants.{NoMemory, ReadFault, Refused}
use Rattle.rosie_session.proofs.Paying.{fit_prepared}
use Rattle.rpl_check.specs.Checked.{IsWhole}
use Rattle.rpl_codefile.proofs.Decides.{one_reading_holds}
use Rattle.rpl_codefile.specs.Spelling.{Spells}
use Rattle.rpl_core.proofs.Codes.{code_holds}
use Rattle.rpl_core.specs.Instr.{Instr}
use Rattle.rpl_core.specs.Numbers.{instr_of}
use Rattle.rpl_core.specs.Programs.{IsCode}
use Rattle.rpl_safe.proofs.Whole.{code_is_safe_holds}
use Rattle.rpl_safe.specs.Safe.{IsSafe}
use Rattle.rpl_compile_laws.proofs.Answering.{answer_holds}
use Rattle.rosie_cli.specs.Planned.{IsCodeLines, code_plan, IsRun, input_names, job_with, matching, plan_unless_long}
use Rattle.rosie_cli.specs.Planned.{CompilesTo, IsCompiled}
use Rattle.rosie_cli.specs.Laws.{HaveOneReport, RunsWhatIsCompiled, SafeLaw}
use Rattle.rosie_cli.specs.Plans.{Plan, Planned, Says, Writes, Tries, RunsOnInputs, Samples, Replays, refusal, report}
use Rattle.rosie_cli.specs.Promises.{SpellsSafe}
use Rattle.rosie_cli.specs.declared.plan.Plan as C
use Rattle.rosie_cli.specs.inside.Planning.{IsMade, Plans}

-- the plan is that of what is loaded
pub code_plans : (s : Settings) (path : List ℕ) (names : List (List ℕ)) (tree : List (List ℕ × List ℕ)) (p : Planned)
    (r : CodeOrLine) → IsCodeLines s path names tree p → IsLoaded path (file_of path tree) r
    → p.plan ≡ code_plan s names r
code_plans s path names tree p r is h =
    is.runs ∙ ap (code_plan s names) (one_loading_holds path (file_of path tree) is.loaded r is.loads h)

-- and what isn't loaded is refused
unready_made : (s : Settings) (path : List ℕ) (names : List (List ℕ)) (tree : List (List ℕ × List ℕ))
    (p : Planned) (u : Unready) → IsCodeLines s path names tree p → Loads path (file_of path tree) (Err u)
    → IsMade (Err u) p.plan
unready_made s path names tree p NoMemory is loads = tt
unready_made s path names tree p (Refused line) is loads =
    code_plans s path names tree p (Err (string_bytes line)) is loads
unready_made s path names tree p (ReadFault failed) is loads = tt

pub unready_plans : (s : Settings) (path : List ℕ) (names : List (List ℕ)) (tree : List (List ℕ × List ℕ))
    (p : Planned) (before now : List (List ℕ)) (u : Unready) → IsCodeLines s path names tree p
    → Loads path (file_of path tree) (Err u) → HasAsked {X = C.Plan} before now (Err u) (path ∷ [])
    → Plans before now (Err u) p
unready_plans s path names tree p before now u is loads asked =
    (unready_made s path names tree p u is loads, subst (HasAsked {X = C.Plan} before now (Err u)) (sym is.asks) asked)

-- the bytes that a plan writes
abbrev bytes_of : List ℕ → Plan → List ℕ
bytes_of bytes (Says ps) = bytes
bytes_of bytes (Writes b) = b
bytes_of bytes (Tries b trials) = bytes
bytes_of bytes (RunsOnInputs m whole names) = bytes
bytes_of bytes (Samples r) = bytes
bytes_of bytes (Replays w) = bytes

abbrev IsSaying : Plan → Type 0
IsSaying (Says ps) = Unit {0}
IsSaying (Writes b) = ⊥
IsSaying (Tries b trials) = Unit {0}
IsSaying (RunsOnInputs m whole names) = Unit {0}
IsSaying (Samples r) = Unit {0}
IsSaying (Replays w) = Unit {0}

-- a plan that refuses doesn't write
not_saying : (p : Planned) (bytes : List ℕ) (plan : Plan) → p.plan ≡ Writes bytes → p.plan ≡ plan → IsSaying plan → ⊥
not_saying p bytes plan writes e is = subst IsSaying (sym e ∙ writes) is

-- a code that spells these bytes is safe where some code does that is
safe_too : (code : List Instr) (bytes : List ℕ) → Spells code bytes → SpellsSafe bytes → IsSafe code
safe_too code bytes spells other = subst IsSafe (one_reading_holds other.0 code bytes other.1 spells) other.2

-- the code that is written is the goal's
compiled_safe : (w : PatternRequest) (tree : Tree) (p : Planned) (bytes : List ℕ) → p.plan ≡ Writes bytes
    → (ready : OrRefused Ready) → IsPrepared tree w p.asked ready → CompilesTo ready p.plan → SpellsSafe bytes
compiled_safe w tree p bytes writes (Err line) is e = absurd (not_saying p bytes _ writes e tt)
compiled_safe w tree p bytes writes (Ok r) is c =
    let fit = fit_prepared tree w p.asked r is in
    ⊎_elim (λ long. absurd (not_saying p bytes _ writes long.1 tt))
    (λ of. (
      c.0,
      subst (Spells c.0) (ap (bytes_of bytes) (sym of.2 ∙ writes)) of.1,
      code_is_safe_holds (bodies r.rules) fit.root.0 r.goal c.0 fit.root.1 fit.whole.goal
          (λ q d at k h. fit.whole.rules q k d at h) c.1,
    ))
    c.2

pub code_is_safe : SafeLaw
code_is_safe w tree p bytes is writes = compiled_safe w tree p bytes writes is.ready is.prepares is.compiles

-- the plan runs the code of what is wanted, which the bytes spell
record Ran (w : PatternRequest) (tree : Tree) (asked : List (List ℕ)) (bytes : List ℕ) (s : Settings) (names :
    List (List ℕ))
    (plan : Plan) : Type 0 where
  ready : Ready
  code : List Instr
  prepares : IsPrepared tree w asked (Ok ready)
  compiled : IsCode (bodies ready.rules) ready.goal code
  spells : Spells code bytes
  runs : plan ≡ RunsOnInputs (RunsCode s code) s.whole names

module _ (w : PatternRequest) (tree : Tree) (p : Planned) (bytes : List ℕ) (writes : p.plan ≡ Writes bytes)
    (safe : SpellsSafe bytes) (fits : length bytes ≤ max_code_bytes) (s : Settings) (path : List ℕ)
    (names : List (List ℕ)) (there : Tree) (q : Planned) (lies : file_of path there ≡ Some bytes)
    (runs : IsCodeLines s path names there q) where
  code_runs : (code : List Instr) → Spells code bytes → q.plan ≡ code_plan s names (Ok code)
  code_runs code spells =
      code_plans s path names there q (Ok code) runs
      (subst (λ x. IsLoaded path x (Ok code)) (sym lies) (inr (fits, (spells, safe_too code bytes spells safe))))

  run_ready : (ready : OrRefused Ready) → IsPrepared tree w p.asked ready → CompilesTo ready p.plan
      → Ran w tree p.asked bytes s names q.plan
  run_ready (Err line) is e = absurd (not_saying p bytes _ writes e tt)
  run_ready (Ok r) is c = ⊎_elim
      (λ long. absurd (not_saying p bytes _ writes long.1 tt))
      (λ of. let spells = subst (Spells c.0) (ap (bytes_of bytes) (sym of.2 ∙ writes)) of.1 in
      record { ready = r; code = c.0; prepares = is; compiled = c.1; spells = spells; runs = code_runs c.0 spells })
      c.2

ran_file : (w : PatternRequest) (tree : Tree) (p : Planned) (bytes : List ℕ) → IsCompiled w tree p
    → p.plan ≡ Writes bytes
    → length bytes ≤ max_code_bytes → (s : Settings) (path : List ℕ) (names : List (List ℕ)) (there : Tree) (q :
    Planned)
    → file_of path there ≡ Some bytes → IsCodeLines s path names there q → Ran w tree p.asked bytes s names q.plan
ran_file w tree p bytes is writes fits s path names there q lies runs =
    run_ready w tree p bytes writes (code_is_safe w tree p bytes is writes) fits s path names there q lies runs is.ready
    is.prepares is.compiles

pub compiled_runs : RunsWhatIsCompiled
compiled_runs w tree p bytes is writes fits s path names there q lies runs =
    let ran = ran_file w tree p bytes is writes fits s path names there q lies runs in
    (ran.ready, ran.code, ran.prepares, ran.compiled, ran.runs)

-- ---- the report

-- two jobs that make the same of each line of text have the same pieces
module _ (m n : Makes) (r : Reading)
    (alike : (file : List ℕ) (k : ℕ) (line : List ℕ) → is_utf8 line ≡ true → m file k line ≡ n file k line) where
  same_text : (file : List ℕ) (k : ℕ) (line : List ℕ) (b : Bool) → is_utf8 line ≡ b → (p : Piece)
      → cond b (m file k line) p ≡ cond b (n file k line) p
  same_text file k line true e p = alike file k line e
  same_text file k line false e p = refl

  same_line : (file : List ℕ) (k : ℕ) (line : List ℕ) → line_piece m r file k line ≡ line_piece n r file k line
  unfolding line_piece
  same_line file k line =
      ap (cond (nat_lt r.most (length line)) (fault_piece (line_message r.tool file k (codes "line too long"))))
      (same_text file k line (is_utf8 line) refl (fault_piece (line_message r.tool file k (codes "not UTF-8"))))

  same_lines : (file : List ℕ) (k : ℕ) (ls : List (List ℕ))
      → pieces_from m r file k ls ≡ pieces_from n r file k ls
  unfolding pieces_from
  same_lines file k [] = refl
  same_lines file k (line ∷ more) =
      ap (λ x. x ∷ pieces_from m r file (k + 1) more) (same_line file (k + 1) line)
      ∙ ap (λ xs. line_piece n r file (k + 1) line ∷ xs) (same_lines file (k + 1) more)

  same_file : (path : List ℕ) (o : Option (List ℕ)) → file_pieces m r path o ≡ file_pieces n r path o
  same_file path None = refl
  same_file path (Some bytes) = same_lines path 0 (lines r.whole bytes)

  same_one : (tree : Tree) (left name : List ℕ) → one_pieces m r tree left name ≡ one_pieces n r tree left name
  same_one tree left name =
      ap (λ x. cond (is_standard name) x (file_pieces m r name (file_of name tree)))
      (same_lines name 0 (lines r.whole left))
      ∙ ap (cond (is_standard name) (input_pieces n r name left)) (same_file name (file_of name tree))

  pub same_inputs : (tree : Tree) (left : List ℕ) (names : List (List ℕ))
      → inputs_pieces m r tree left names ≡ inputs_pieces n r tree left names
  unfolding inputs_pieces
  same_inputs tree left [] = refl
  same_inputs tree left (name ∷ more) =
      ap (λ xs. xs ++ inputs_pieces m r tree (left_after name left) more) (same_one tree left name)
      ∙ ap (λ xs. one_pieces n r tree left name ++ xs) (same_inputs tree (left_after name left) more)

-- a goal's code alone runs as the goal
same_report : (s : Settings) (job : Job) (names : List (List ℕ)) → IsMeant job → (files : Tree) (input : List ℕ)
    → report (RunsOnInputs (RunsCode s job.code) s.whole names) files input
    ≡ report (RunsOnInputs (Matches s job) s.whole names) files
    input
unfolding report
same_report s job names meant files input =
    ap up_to_stop (same_inputs (code_makes s job.code) (match_makes s job) (line_reading s.whole)
    (λ file k line u. sym (runs_as_its_goal s job meant file k line u)) files input names)

-- a code within its limit is what is matched
module _ (w : PatternRequest) (tree : Tree) (s : Settings) (inputs : List (List ℕ)) (files : Tree) (input : List ℕ)
    (asked : List (List ℕ)) (code : List Instr) (q : Plan) (within : length code ≤ 1048576)
    (runs : q ≡ RunsOnInputs (RunsCode s code) s.whole (input_names inputs)) where
  matched_as : (r : Ready) → IsWhole (bodies r.rules) r.goal → IsCode (bodies r.rules) r.goal code → (p : Plan)
      → IsRun (matching s inputs) (Ok r) p → report q files input ≡ report p files input
  matched_as r whole is p h =
      let job = job_with r code in
      let same : h.0 ≡ code = code_holds (bodies r.rules) r.goal h.0 code h.1 is in
      let test : nat_lt 1048576 (length code) ≡ false = grind (arith, within) in
      let plan : p ≡ RunsOnInputs (Matches s job) s.whole (input_names inputs) =
      h.2 ∙ ap (λ (c : List Instr). plan_unless_long (matching s inputs r.rules (job_with r c)) c) same
      ∙ ap (λ b. cond b (refusal compile_line) (matching s inputs r.rules job)) test in
      let meant : IsMeant job = λ t chars b.
      answer_holds whole.stays.0 _ _ _ whole.stays.1 is t chars (whole.shut t) b in
      ap (λ x. report x files input) runs ∙ same_report s job (input_names inputs) meant files input
      ∙ ap (λ x. report x files input) (sym plan)

  matched_from : (o : OrRefused Ready) (r : Ready) → o ≡ Ok r → IsWhole (bodies r.rules) r.goal
      → IsCode (bodies r.rules) r.goal code → (p : Plan) → IsRun (matching s inputs) o p
      → report q files input ≡ report p files input
  matched_from o r e whole is p h = matched_as r whole is p (subst (λ x. IsRun (matching s inputs) x p) e h)

few_of : (code : List Instr) (bytes : List ℕ) → Spells code bytes → length code ≤ 1048576
few_of code bytes s =
    omega (arith, s.is_file.limit, ap length s.code_is, length-map s.file.code (instr_of s.file.sets s.file.texts))

pub one_report : HaveOneReport
one_report w tree c bytes is writes fits s inputs p running path there q lies runs files input =
    let ran = ran_file w tree c bytes is writes fits s path (input_names inputs) there q lies runs in
    let fit = fit_prepared tree w c.asked ran.ready ran.prepares in
    let same = one_answer tree w p.asked c.asked running.ready (Ok ran.ready) running.prepares ran.prepares in
    matched_from w tree s inputs files input c.asked ran.code q.plan (few_of ran.code bytes ran.spells) ran.runs
    running.ready ran.ready same.1 fit.whole ran.compiled p.plan running.runs

-- From a plan to its run, and to what is told of it.
use Rattle.std.proofs.Common.{ℕ, ◌≡◌, inl, inr, ◌-◌, ◌^◌, ◌<◌, ◌≤◌, Bool, true, false, ◌||◌, List, [], ◌∷◌, ◌++◌}
use Rattle.std.proofs.Common.{length, refl, sym, ◌∙◌, ap, subst, arith}
use Rattle.std.specs.Prelude.{Option, Some, None, Result, Ok, Err, codes}
use Rattle.std.specs.List.{Contains}
use Rattle.std.proofs.Math.Bool.{or-true}
use Rattle.std.proofs.lemmas.Bool.{false≢true}
use Rattle.std.proofs.lemmas.List.Folds.{list_any-append}
use Rattle.rosie_io.specs.Counts.{Rose}
use Rattle.rosie_run.specs.Causes.{AnswerReadCause, AnswerWriteCause}
use Rattle.rosie_run.specs.Headline.{AreShort, Headline, IsComplete}
use Rattle.rosie_run.specs.Inputs.{AreTold, inputs_pieces, is_standard, reads_standard}
use Rattle.rosie_run.specs.Outputs.{Telling, Texts}
use Rattle.rosie_run.specs.Report.{Piece, has, is_stop, is_fault, stop_piece}
use Rattle.rosie_run.specs.Runs.{Breaks, Runs, IsCutOf, GoesOn}
use Rattle.rosie_run.specs.Sources.{Moment, RoseIn, Span}
use Rattle.rosie_run.specs.Where.{Nowhere, not_opened, opened, InInputs, in_file, in_standard, in_loading, in_inputs}
use Rattle.rosie_run.specs.declared.lines.Reading.{Reading}
use Rattle.rosie_run.specs.declared.ended.Ended.{Ended}
use Rattle.rosie_io.specs.declared.stop.ReadStop.{ReadStop}
use Rattle.rosie_io.specs.declared.stop.ReadStop.TheVariants as Y
use Rattle.rosie_run.specs.declared.status.Status.{Status}
use Rattle.rosie_run.specs.declared.status.Status.TheVariants.{Matched, NoMatch, Refused, LineFault}
use Rattle.rosie_run.specs.declared.status.Status.TheVariants.{ReadFault, WriteFault, NoMemory, Spent}
use Rattle.rosie_run.specs.declared.tally.Tally.{Tally}
use Rattle.rosie_run.proofs.Breaking.{runs_weaken, breaks_cut}
use Rattle.rosie_run.proofs.Headlines.{completes}
use Rattle.rosie_run.proofs.Inward.{file_later}
use Rattle.rosie_run.proofs.Pieces.{has_nil, wrote_none}
use Rattle.rosie_jobs.specs.Lines.{line_reading}
use Rattle.rosie_jobs.specs.Jobs.{matcher}
use Rattle.rosie_jobs.specs.Makers.{Maker, makes_of}
use Rattle.rosie_jobs.specs.declared.job.CheckedGoal.{CheckedGoal}
use Rattle.rosie_words.specs.declared.settings.Settings.{Settings}
use Rattle.rpl_core.specs.Instr.{Instr}
use Rattle.rosie_suites.specs.Trials.{Bench, Trial, suite_pieces}
use Rattle.rosie_cli.specs.Planned.{IsPlanned, IsPlannedAs}
use Rattle.rosie_cli.specs.Plans.{Plan, Says, Writes, Tries, RunsOnInputs, Planned, refusal, Samples, Replays, pieces}
use Rattle.rosie_cli.specs.Plans.{inputs_of, IsIdlePlan, IsTracer, IgnoresInput, ReadsInput, among, stood, IsAnswer}
use Rattle.rosie_words.specs.declared.command.Command.{Command}
use Rattle.rosie_session.specs.Loading.{Loading}
use Rattle.rosie_session.specs.Replay.{replay}
use Rattle.rosie_session.specs.Where.{InSession, in_lines, in_load}
use Rattle.rosie_cli.specs.Words.{CommandLine, Refuse, Do}
use Rattle.rosie_cli.specs.inside.Planning.{IsSaid}

-- the counts before, and over more
inputs_later : (names : List (List ℕ)) (before : List (List ℕ) → ℕ) (tree : List (List ℕ × List ℕ)) (whole :
    Bool) (i0 i1 f0 f f1 : Moment) (why : ReadStop) (file : List ℕ) (k : ℕ) → f.faults ≡ f0.faults → f.opens ≡ f0.opens
    → (f.taken < 2 ^ 64 - 1 → f0.taken ≤ f.taken) → InInputs names before tree whole i0 i1 f f1 why file k
    → InInputs names before tree whole i0 i1 f0 f1 why file k
inputs_later names before tree whole i0 i1 f0 f f1 why file k faults opens taken (in_file front back n is isn't x e) =
    in_file front back n is isn't (file_later tree whole f0 f f1 why file n faults opens taken x) e
inputs_later names before tree whole i0 i1 f0 f f1 why file k faults opens taken
    (in_standard front back n is isn't first x e) = in_standard front back n is isn't first x e

rose_later : (f0 f f1 : Moment) → f.faults ≡ f0.faults → f.opens ≡ f0.opens → RoseIn f f1 → RoseIn f0 f1
rose_later f0 f f1 faults opens (inl r) = inl (subst (λ x. Rose x f1.faults) faults r)
rose_later f0 f f1 faults opens (inr r) = inr (subst (λ x. Rose x f1.opens) opens r)

session_later : (w : Loading) (input : List ℕ) (i0 i1 f0 f f1 : Moment) (why : ReadStop) (file : List ℕ) (k : ℕ)
    → f.faults ≡ f0.faults → f.opens ≡ f0.opens → InSession w input i0 i1 f f1 why file k
    → InSession w input i0 i1 f0 f1 why file k
session_later w input i0 i1 f0 f f1 why file k faults opens (in_lines x) = in_lines x
session_later w input i0 i1 f0 f f1 why file k faults opens (in_load t at asks is rose) =
    in_load t at asks is (rose_later f0 f f1 faults opens rose)

among_later : (plan : Plan) (tree : List (List ℕ × List ℕ)) (i : Span) (f0 f f1 : Moment) (why : ReadStop)
    (file : List ℕ) (k : ℕ) → f.faults ≡ f0.faults → f.opens ≡ f0.opens
    → (f.taken < 2 ^ 64 - 1 → f0.taken ≤ f.taken) → among plan tree i (record { before = f; after = f1 }) why file k
    → among plan tree i (record { before = f0; after = f1 }) why file k
among_later (Says ps) tree i f0 f f1 why file k faults opens taken x = x
among_later (Writes bytes) tree i f0 f f1 why file k faults opens taken x = x
among_later (Tries b trials) tree i f0 f f1 why file k faults opens taken x = x
among_later (RunsOnInputs m whole names) tree i f0 f f1 why file k faults opens taken x =
    inputs_later names (λ front. length (inputs_pieces (makes_of m) (line_reading whole) tree i.before.rest front)) tree
    whole
    i.before i.after f0 f f1 why file k faults opens taken x
among_later (Samples r) tree i f0 f f1 why file k faults opens taken x = x
among_later (Replays w) tree i f0 f f1 why file k faults opens taken x =
    session_later w i.before.rest i.before i.after f0 f f1 why file k faults opens x

-- the run of what the words come to, from the run of its plan
pub planned_runs : (s : Result Tally Ended) (W : Telling) (p : Planned) (plan : Plan)
    (tree tree' : List (List ℕ × List ℕ)) (i : Span) (f0 f f1 : Moment) (a b : Texts) → p.plan ≡ plan → tree' ≡ tree
    → f.faults ≡ f0.faults → f.opens ≡ f0.opens → (f.taken < 2 ^ 64 - 1 → f0.taken ≤ f.taken)
    → Runs s W (pieces plan tree' i.before.rest) (among plan tree' i (record { before = f; after = f1 })) a b
    → Runs s W (pieces p.plan tree i.before.rest) (stood p tree i (record { before = f0; after = f1 })) a b
planned_runs s W p plan tree tree' i f0 f f1 a b is t faults opens taken h =
    let input = i.before.rest in
    let there = subst (λ x. Runs s W (pieces plan x input) (among plan x i (record { before = f; after = f1 })) a b) t h
    in
    let same = subst (λ x. Runs s W (pieces x tree input) (among x tree i (record { before = f; after = f1 })) a b)
    (sym is) there in
    runs_weaken W s (pieces p.plan tree input) (among p.plan tree i (record { before = f; after = f1 }))
    (stood p tree i (record { before = f0; after = f1 })) a b
    (λ why file k x. in_inputs (among_later p.plan tree i f0 f f1 why file k faults opens taken x)) same

-- words that are refused, whatever files were read before
pub refused_runs : (s : Result Tally Ended) (W : Telling) (p : Planned) (line : List ℕ)
    (tree : List (List ℕ × List ℕ)) (i f : Span) (a b : Texts) → p.plan ≡ refusal line
    → Runs s W (stop_piece line ∷ []) Nowhere a b
    → Runs s W (pieces p.plan tree i.before.rest) (stood p tree i f) a b
refused_runs s W p line tree i f a b is h =
    let same = subst (λ x. Runs s W (pieces x tree i.before.rest) (among x tree i f) a b) (sym is) h in
    runs_weaken W s (pieces p.plan tree i.before.rest) (among p.plan tree i f) (stood p tree i f) a b
    (λ why file k x. in_inputs x) same

-- a plan that only says something reads no input
no_input : reads_standard [] ≡ true → ⊥
no_input e = false≢true e

pub said_goes : (s : Result Tally Ended) (plan : Plan) (P : Type 0) → IsSaid plan → GoesOn s (ReadsInput plan → P)
said_goes (Ok tally) (Says ps) P is = λ goes reads. absurd (no_input reads)
said_goes (Ok tally) (Writes bytes) P is = λ goes reads. absurd (no_input reads)
said_goes (Ok tally) (Tries b trials) P is = λ goes reads. absurd (no_input reads)
said_goes (Ok tally) (RunsOnInputs m whole names) P is = absurd is
said_goes (Ok tally) (Samples r) P is = λ goes reads. absurd (no_input reads)
said_goes (Ok tally) (Replays w) P is = absurd is
said_goes (Err e) plan P is = tt

-- the run over the same plan, and over the same names
pub match_runs : (s : Result Tally Ended) (W : Telling) (m : Maker) (whole : Bool) (names names' : List (List ℕ))
    (r : Reading) (plan : Plan) (tree : List (List ℕ × List ℕ)) (i f : Span) (a b : Texts)
    → plan ≡ RunsOnInputs m whole names → names' ≡ names → r ≡ line_reading whole
    → Runs s W (inputs_pieces (makes_of m) r tree i.before.rest names')
    (InInputs names' (λ front. length (inputs_pieces (makes_of m) r tree i.before.rest front)) tree r.whole
    i.before i.after f.before f.after) a b
    → Runs s W (pieces plan tree i.before.rest) (among plan tree i f) a b
match_runs s W m whole names names' r plan tree i f a b is n e h =
    let read = subst (λ x. Runs s W (inputs_pieces (makes_of m) x tree i.before.rest names')
    (InInputs names' (λ front. length (inputs_pieces (makes_of m) x tree i.before.rest front)) tree x.whole
    i.before i.after f.before f.after) a b) e h in
    subst (λ x. Runs s W (pieces x tree i.before.rest) (among x tree i f) a b) (sym is)
    (subst (λ x. Runs s W (pieces (RunsOnInputs m whole x) tree i.before.rest) (among (RunsOnInputs m whole x) tree i f)
    a b) n read)

-- whose inputs are told
pub told_names : (names names' : List (List ℕ)) (files input : Type 0) → names' ≡ names → AreTold names files input
    → AreTold names' files input
told_names names names' files input e h = subst (λ x. AreTold x files input) (sym e) h

pub names_go : (s : Result Tally Ended) (plan : Plan) (names names' : List (List ℕ)) (P : Type 0)
    → inputs_of plan ≡ names → names' ≡ names → GoesOn s (reads_standard names' ≡ true → P)
    → GoesOn s (ReadsInput plan → P)
names_go s plan names names' P e f h =
    subst (λ x. GoesOn s (reads_standard x ≡ true → P)) (f ∙ sym e) h

-- and over the same tests
pub test_runs : (s : Result Tally Ended) (W : Telling) (bench : Bench) (trials : List Trial) (plan : Plan)
    (tree : List (List ℕ × List ℕ)) (i f : Span) (a b : Texts) → plan ≡ Tries bench trials
    → Runs s W (suite_pieces bench trials) Nowhere a b
    → Runs s W (pieces plan tree i.before.rest) (among plan tree i f) a b
test_runs s W bench trials plan tree i f a b is h =
    subst (λ x. Runs s W (pieces x tree i.before.rest) (among x tree i f) a b) (sym is) h

pub planned_goes : (s : Result Tally Ended) (p : Planned) (plan : Plan) (P : Type 0) → p.plan ≡ plan
    → GoesOn s (ReadsInput plan → P) → GoesOn s (ReadsInput p.plan → P)
planned_goes s p plan P is h = subst (λ x. GoesOn s (ReadsInput x → P)) (sym is) h

-- a read that failed on the way to the plan
pub unread : (e : Ended) (W : Telling) (p : Planned) (tree : List (List ℕ × List ℕ)) (path : List ℕ) (i f : Span)
    (a : Texts) → (W.counts → a.number ≤ 2 ^ 64 - 1) → IsCutOf e W.tool Y.ReadFault path → Contains p.asked path
    → RoseIn f.before f.after → Breaks e W (pieces p.plan tree i.before.rest) (stood p tree i f) a a
unread e W p tree path i f a fits is some rose =
    let all = pieces p.plan tree i.before.rest in
    breaks_cut W e Y.ReadFault path all [] all (stood p tree i f) a a is refl (has_nil is_stop)
    (wrote_none W a a refl fits) (in_loading some refl rose refl)

-- the standard input is among the inputs where one of them has its name
reads_at : (front back : List (List ℕ)) (file : List ℕ) → is_standard file ≡ true
    → reads_standard (front ++ file ∷ back) ≡ true
reads_at front back file e =
    list_any-append is_standard front (file ∷ back)
    ∙ ap (λ b. reads_standard front || (b || reads_standard back)) e ∙ or-true (reads_standard front)

-- a session reads it
session_reads : reads_standard (codes "-" ∷ []) ≡ true
session_reads = refl

-- no input has as many bytes as are read
IsShort : List (List ℕ) → List ℕ → Type 0
IsShort names rest = reads_standard names ≡ true → length rest < 2 ^ 32

inputs_not_spent : (names : List (List ℕ)) (before : List (List ℕ) → ℕ) (tree : List (List ℕ × List ℕ)) (whole : Bool)
    (i0 i1 f0 f1 : Moment) (file : List ℕ) (k : ℕ) → IsShort names i0.rest → AreShort names tree
    → InInputs names before tree whole i0 i1 f0 f1 Y.Spent file k → ⊥
unfolding IsShort
inputs_not_spent names before tree whole i0 i1 f0 f1 file k short files
    (in_file front back n is isn't (not_opened e rose z) x) = absurd (cc)
inputs_not_spent names before tree whole i0 i1 f0 f1 file k short files
    (in_file front back n n' isn't (opened got o e at z long) x) = let l = long refl in
    let m = files front back file (got ++ f1.rest) n' isn't at in absurd (omega arith)
inputs_not_spent names before tree whole i0 i1 f0 f1 file k short files (in_standard front back n is isn't first x e) =
    let l = x.long refl in
    let m = short (ap reads_standard is ∙ reads_at front back file isn't) in
    absurd (omega arith)

session_not_spent : (w : Loading) (input : List ℕ) (i0 i1 f0 f1 : Moment) (file : List ℕ) (k : ℕ)
    → length i0.rest < 2 ^ 32 → InSession w input i0 i1 f0 f1 Y.Spent file k → ⊥
session_not_spent w input i0 i1 f0 f1 file k short (in_lines x) = let l = x.1.long refl in absurd (omega arith)
session_not_spent w input i0 i1 f0 f1 file k short (in_load t at asks is rose) = absurd (cc)

among_not_spent : (plan : Plan) (tree : List (List ℕ × List ℕ)) (i f : Span) (file : List ℕ) (k : ℕ)
    → IsShort (inputs_of plan) i.before.rest → AreShort (inputs_of plan) tree → among plan tree i f Y.Spent file k → ⊥
unfolding IsShort
among_not_spent (Says ps) tree i f file k short files x = x
among_not_spent (Writes bytes) tree i f file k short files x = x
among_not_spent (Tries b trials) tree i f file k short files x = x
among_not_spent (RunsOnInputs m whole names) tree i f file k short files x =
    inputs_not_spent names (λ front. length (inputs_pieces (makes_of m) (line_reading whole) tree i.before.rest front))
    tree
    whole i.before i.after f.before f.after file k short files x
among_not_spent (Samples r) tree i f file k short files x = x
among_not_spent (Replays w) tree i f file k short files x =
    session_not_spent w i.before.rest i.before i.after f.before f.after file k (short session_reads) x

pub not_spent : (p : Planned) (tree : List (List ℕ × List ℕ)) (i f : Span) (file : List ℕ) (k : ℕ)
    → (reads_standard (inputs_of p.plan) ≡ true → length i.before.rest < 2 ^ 32) → AreShort (inputs_of p.plan) tree
    → stood p tree i f Y.Spent file k → ⊥
unfolding IsShort
not_spent p tree i f file k short files (in_loading at e rose z) = absurd (cc)
not_spent p tree i f file k short files (in_inputs x) = among_not_spent p.plan tree i f file k short files x

-- words that are refused have a plan that says so
pub refused_is : (a : CommandLine) (text : List ℕ) (tree : List (List ℕ × List ℕ)) (p : Planned) → Refuse text ≡ a
    → IsPlanned a tree p → p ≡ record { asked = []; plan = refusal text }
refused_is a text tree p e is = subst (λ (x : CommandLine). IsPlanned x tree p) (sym e) is

pub refused_plan : (a : CommandLine) (text : List ℕ) (tree : List (List ℕ × List ℕ)) (p : Planned) → Refuse text ≡ a
    → IsPlanned a tree p → p.plan ≡ refusal text
refused_plan a text tree p e is = ap (λ (q : Planned). q.plan) (refused_is a text tree p e is)

-- and the plan of others is that of their command
pub do_planned : (a : CommandLine) (c : Command) (tree : List (List ℕ × List ℕ)) (p : Planned) → Do c ≡ a
    → IsPlanned a tree p → IsPlannedAs c c.what tree p
do_planned a c tree p e is = subst (λ (x : CommandLine). IsPlanned x tree p) (sym e) is

-- a session, from its own run
abbrev pub session_planned : Loading → Planned
session_planned w = record { asked = []; plan = Replays w }

pub session_runs : (s : Result Tally Ended) (W : Telling) (p : Planned) (w : Loading) (tree : List (List ℕ × List ℕ))
    (i f : Span) (a b : Texts) → p ≡ session_planned w
    → Runs s W (replay w i.before.rest) (InSession w i.before.rest i.before i.after f.before f.after) a b
    → Runs s W (pieces p.plan tree i.before.rest) (stood p tree i f) a b
session_runs s W p w tree i f a b is h =
    let input = i.before.rest in
    subst (λ (q : Planned). Runs s W (pieces q.plan tree input) (stood q tree i f) a b) (sym is)
    (runs_weaken W s (replay w input) (InSession w input i.before i.after f.before f.after)
    (stood (session_planned w) tree i f) a b (λ why file k x. in_inputs x) h)

pub session_goes : (s : Result Tally Ended) (p : Planned) (P : Type 0) → GoesOn s P → GoesOn s (ReadsInput p.plan → P)
session_goes (Ok tally) p P h = λ goes _. h goes
session_goes (Err e) p P h = tt

-- where nothing goes wrong there is an answer
module _ (W : Telling) (ps : List Piece) (Where : ReadStop → List ℕ → ℕ → Type 0) (a b : Texts) (i0 i1 f0 f1 : Moment)
    (o0 o1 e0 e1 : ℕ) (i : RoseIn i0 i1 → ⊥) (f : RoseIn f0 f1 → ⊥) (o : Rose o0 o1 → ⊥) (e : Rose e0 e1 → ⊥)
    (few : (file : List ℕ) (k : ℕ) → Where Y.Spent file k → ⊥) where
  pub completes_if : (answer : Status) → has is_stop ps ≡ false → has is_fault ps ≡ false
      → Headline answer W ps Where a b → AnswerReadCause answer i0 i1 f0 f1 → AnswerWriteCause answer o0 o1 e0 e1
      → IsComplete answer ps
  completes_if answer stays clean h r w =
      completes W ps Where a b i0 i1 f0 f1 o0 o1 e0 e1 i f o e few stays clean answer h r w

  -- where no read and no write goes wrong the answer is the report's
  pub answers_all : (answer : Status) → Headline answer W ps Where a b → AnswerReadCause answer i0 i1 f0 f1
      → AnswerWriteCause answer o0 o1 e0 e1 → IsAnswer answer ps
  answers_all Matched h r w = inl h.status
  answers_all NoMatch h r w = inl h.status
  answers_all Refused h r w = inl h.status
  answers_all LineFault h r w = inl h.status
  answers_all ReadFault h r w = elim r.2 [ inl x ↦ absurd (i x) | inr x ↦ absurd (f x) ]
  answers_all Spent h r w = absurd (few h.file h.k h.stood)
  answers_all WriteFault h r w = elim w.2 [ inl x ↦ absurd (o x) | inr x ↦ absurd (e x) ]
  answers_all NoMemory h r w = inr refl

-- ---- a plan that doesn't name the standard input

pub unread_names : (plan : Plan) (names names' : List (List ℕ)) → inputs_of plan ≡ names → names' ≡ names
    → IgnoresInput plan → reads_standard names' ≡ false
unread_names plan names names' e f n = ap reads_standard (f ∙ sym e) ∙ n

pub session_takes_input : (p : Planned) (w : Loading) → p ≡ session_planned w → IgnoresInput p.plan → ⊥
session_takes_input p w is n =
    false≢true (sym (subst (λ (q : Planned). IgnoresInput q.plan) is n) ∙ session_reads)

-- a session runs its lines
pub session_works : (p : Planned) (w : Loading) → p ≡ session_planned w → IsIdlePlan p.plan → ⊥
session_works p w is n = subst (λ (q : Planned). IsIdlePlan q.plan) is n

-- nor does a match run nothing
pub matches_work : (o : Option CheckedGoal) (s : Settings) (code : List Instr) → IsTracer (matcher o s code) → ⊥
matches_work None s code h = h
matches_work (Some goal) s code h = h

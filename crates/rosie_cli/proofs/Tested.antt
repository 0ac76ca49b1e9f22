-- No test of a file passes a budget that pays for it.
use Rattle.std.proofs.Common.{ℕ, inl, inr, ◌≡◌, ◌+◌, ◌*◌, ◌<◌, Bool, true, false, cond, List, [], ◌∷◌, ◌++◌}
use Rattle.std.proofs.Common.{length, refl, sym, ◌∙◌, subst, arith}
use Rattle.std.specs.Prelude.{Option, Some, None, Ok, Err, codes, map, nat_eq, nat_lt, encode_utf8_all, slice_get}
use Rattle.std.specs.List.{All}
use Rattle.std.specs.Str.{all_scalars, is_utf8}
use Rattle.std.proofs.lemmas.Bool.{false≢true}
use Rattle.std.proofs.lemmas.List.{append-nil}
use Rattle.std.proofs.lemmas.Bool.Decides.{nat_tests}
use Rattle.std.proofs.lemmas.List.Elements.{All-cons, All-head, All-nil, All-tail}
use Rattle.rosie_io.specs.Opening.{file_of}
use Rattle.rosie_jobs.specs.Lines.{Job, budget_or, is_over}
use Rattle.rosie_prepare.specs.Prepared.{OrLine, Passes, TablePasses, TableFacts, Tree, bodies, unless_faulty}
use Rattle.rosie_prepare.specs.Prepared.{table_too_large, table_unsound}
use Rattle.rosie_session.proofs.Paying.{goal_whole, own_root, own_within}
use Rattle.rosie_suites.proofs.Texts.{tests_are_of_text}
use Rattle.rosie_suites.specs.Budgets.{SuitePays, TestPays}
use Rattle.rosie_suites.specs.Suites.{AreTrials, SuiteComes, ComesAgain, IsSubject, IsSuite, Suite, Tells, bad, tests}
use Rattle.rosie_suites.specs.Suites.{goal_of, loading, read_again}
use Rattle.rosie_suites.specs.Trials.{Bench, Subject, Trial, TooLong, HasCode, ran}
use Rattle.rpl_package.specs.Asking.{IsTold}
use Rattle.rpl_check.specs.Checked.{IsWhole}
use Rattle.rpl_check.specs.Faults as C
use Rattle.rpl_core.specs.Core.{Call, Capture, Core}
use Rattle.rpl_core.specs.Meaning.{Outcome}
use Rattle.rpl_core.specs.Outcome.{outcome, work_of}
use Rattle.rpl_core.specs.Programs.{IsCode, calls}
use Rattle.rpl_core.specs.Run.{Answer, Matched, Failed, Unfinished}
use Rattle.rpl_expand.specs.Faults as F
use Rattle.rpl_expand.specs.Sets.{table_of}
use Rattle.rpl_expand.proofs.Loaded.{told_is_built}
use Rattle.rpl_expand.specs.LoadLaws.{by_roots}
use Rattle.rpl_names.specs.Built.{IsBuilt}
use Rattle.rpl_names.specs.Loading.{world}
use Rattle.rpl_names.specs.Owned.{own}
use Rattle.rpl_names.specs.Roots.{Packages, load}
use Rattle.rpl_names.specs.Texts.{max_text_bytes}
use Rattle.rpl_names.specs.declared.roots.Root.TheVariants.{File}
use Rattle.rpl_names.specs.declared.targets.Target.{Target}
use Rattle.rpl_scope.specs.Faults.{Or}
use Rattle.rpl_compile_laws.proofs.Answering.{answer_holds}
use Rattle.rpl_compile_laws.specs.Laws.{IsCapture, by_call, itself, Tells as Answers}
use Rattle.rpl_unittest.specs.declared.test.Test.{Test}
use Rattle.rosie_cli.specs.Promises.{HasMeaning, TestMeans, TestsMean}
use Rattle.rosie_cli.proofs.Meant.{meaning_of}

same_number : (a b : ℕ) → nat_eq a b ≡ true → a ≡ b
same_number a b e = grind (arith, nat_tests)

-- ---- what is read again is a text

abbrev IsText : OrLine (List ℕ) → Type 0
IsText (Err line) = Unit {0}
IsText (Ok bytes) = is_utf8 bytes ≡ true

text_by : (bytes long_line other_line : List ℕ) (long utf8 : Bool) → is_utf8 bytes ≡ utf8
    → IsText (cond long (Err long_line) (cond utf8 (Ok bytes) (Err other_line)))
text_by bytes long_line other_line true utf8 u = tt
text_by bytes long_line other_line false true u = u
text_by bytes long_line other_line false false u = tt

text_read : (file : List ℕ) (o : Option (List ℕ)) → IsText (read_again file o)
text_read file None = tt
text_read file (Some bytes) = text_by bytes _ _ (nat_lt max_text_bytes (length bytes)) (is_utf8 bytes) refl

-- ---- its goal means something on every text, and it passes its budget only where that is due

abbrev IsGood : Bench → Test → Subject → Type 0
IsGood b t s = TestPays b t s × TestMeans s

abbrev AreGood : Bench → List Trial → Type 0
AreGood b = All (λ t. IsGood b t.test t.subject)

goal_calls : (t : Target) (b : Bool) (r : ℕ) → calls (cond b (Call t.rule) (Capture (codes "*") (Call t.rule))) r ≡ true
    → r ≡ t.rule
goal_calls t true r e = sym (same_number t.rule r e)
goal_calls t false r e = sym (same_number t.rule r e)

goal_clean : (m h : ℕ → Bool) (t : Target) (b : Bool)
    → C.goal_fault m h (cond b (Call t.rule) (Capture (codes "*") (Call t.rule))) ≡ None
goal_clean m h t true = refl
goal_clean m h t false = refl

goal_root : (R : List Core) (t : Target) (b : Bool)
    → (b ≡ true → (label : List ℕ) × (q : Core) × (slice_get R t.rule ≡ Some (Capture label q)))
    → (label : List ℕ) × IsCapture R label (cond b (Call t.rule) (Capture (codes "*") (Call t.rule)))
goal_root R t true h = let made = h refl in (made.0, by_call t.rule made.1 made.2)
goal_root R t false h = (codes "*", itself (Call t.rule))

module _ (p : Packages) (is : IsBuilt p) (d : TableFacts p) (small : table_too_large p ≡ None)
    (none : table_unsound p d ≡ None) where
  target_whole : (i : ℕ) (name : List ℕ) (t : Target) → own p i name ≡ Some t
      → IsWhole (bodies (table_of p)) (goal_of t)
  target_whole i name t e =
      let below = own_within p is d small none i name t e in
      goal_whole p is d small none (goal_of t)
      (λ r called. let same = goal_calls t t.captures r called in omega (arith, same, below))
      (goal_clean d.empties d.halting t t.captures)

  target_root : (i : ℕ) (name : List ℕ) (t : Target) → own p i name ≡ Some t
      → (label : List ℕ) × IsCapture (bodies (table_of p)) label (goal_of t)
  target_root i name t e = goal_root (bodies (table_of p)) t t.captures (own_root p is d small none i name t e)

  over_due : (o : Outcome) (b : ℕ) (a : Answer) → is_over a ≡ true → Answers o b a → b < 4 * work_of o + 2
  over_due o b (Matched n i cs) e h = absurd (false≢true e)
  over_due o b (Failed n) e h = absurd (false≢true e)
  over_due o b Unfinished e h = h

  pays_job : (b : Bench) (t : Test) (job : Job) → IsWhole job.rules job.goal → IsCode job.rules job.goal job.code
      → all_scalars t.text ≡ true → TestPays b t (HasCode job)
  pays_job b t job whole code chars = λ over.
      over_due (outcome job.rules job.goal t.text) (budget_or b.budget t.text) (ran b t job) over
      (answer_holds whole.stays.0 _ _ _ whole.stays.1 code t.text chars (whole.shut t.text) (budget_or b.budget t.text))

  good_limit : (b : Bench) (t : Test) (job : Job) → TestPays b t (HasCode job) → HasMeaning job → (long : Bool)
      → IsGood b t (cond long TooLong (HasCode job))
  good_limit b t job pays means true = (tt, tt)
  good_limit b t job pays means false = (pays, means)

  good_subject : (b : Bench) (t : Test) (i : ℕ) (o : Option Target) → own p i t.name ≡ o → (s : Subject)
      → IsSubject (bodies (table_of p)) o s → all_scalars t.text ≡ true → IsGood b t s
  good_subject b t i None e s h chars = subst (IsGood b t) (sym h) (tt, tt)
  good_subject b t i (Some x) e s h chars =
      let R = bodies (table_of p) in
      let job : Job = record { rules = R; goal = goal_of x; code = h.0 } in
      let whole = target_whole i t.name x e in
      subst (IsGood b t) (sym h.2)
      (good_limit b t job (pays_job b t job whole h.1 chars)
      (meaning_of R (goal_of x) h.0 whole (target_root i t.name x e)) (nat_lt 1048576 (length h.0)))

  good_trials : (b : Bench) (i : ℕ) (ts : List Test) (trials : List Trial)
      → All (λ (t : Test). all_scalars t.text ≡ true) ts → AreTrials (bodies (table_of p)) (own p i) ts trials
      → AreGood b trials
  good_trials b i [] trials chars h = subst (AreGood b) (sym h) (All-nil _)
  good_trials b i (t ∷ ts) trials chars h =
      let s = h.0 in
      let text = All-head (λ (t : Test). all_scalars t.text ≡ true) t ts chars in
      let more = All-tail (λ (t : Test). all_scalars t.text ≡ true) t ts chars in
      subst (AreGood b) (sym h.4)
      (All-cons (λ (x : Trial). IsGood b x.test x.subject) (record { test = t; subject = s }) h.1
      (good_subject b t i (own p i t.name) refl s h.2 text) (good_trials b i ts h.1 more h.3))

  good_told : (i : ℕ) (b : Bench) (text : List ℕ) (s : Suite) (o : OrLine Suite) → is_utf8 text ≡ true → o ≡ Ok s
      → Tells p i b text o → AreGood s.bench s.trials
  good_told i b text s o u e (tests ts trials has are is) =
      let same : record { bench = b; trials = trials } ≡ s = cc in
      subst (λ (x : Suite). AreGood x.bench x.trials) same
      (good_trials b i ts trials (tests_are_of_text text ts u has) are)
  good_told i b text s o u e (bad line has is) = absurd (cc)

  good_again : (file : List ℕ) (budget : Option ℕ) (text : OrLine (List ℕ)) (s : Suite) → IsText text
      → ComesAgain p file budget text (Ok s) → AreGood s.bench s.trials
  good_again file budget (Err line) s u h = absurd (cc)
  good_again file budget (Ok text) s u h =
      good_told h.0 (record { file = encode_utf8_all file; prefix = encode_utf8_all h.1; budget = budget }) text s
      (Ok s)
      u refl h.4

-- ---- the tests of a file

good_found : (q p : Packages) → IsBuilt q → (d : TableFacts q)
    → table_too_large q ≡ None → (f : Option C.Fault) → table_unsound q d ≡ f → Ok p ≡ unless_faulty q q f
    → (file : List ℕ) (budget : Option ℕ) (text : OrLine (List ℕ)) (s : Suite) → IsText text
    → ComesAgain p file budget text (Ok s)
    → AreGood s.bench s.trials
good_found q p is d small (Some f) none e file budget text s u h = absurd (cc)
good_found q p is d small None none e file budget text s u h =
    let same : p ≡ q = cc in
    good_again q is d small none file budget text s u
    (subst (λ x. ComesAgain x file budget text (Ok s)) same h)

good_passed : (q p : Packages) → IsBuilt q → (t : Option F.Fault) → table_too_large q ≡ t
    → Passes q t (table_unsound q) q (Ok p)
    → (file : List ℕ) (budget : Option ℕ) (text : OrLine (List ℕ)) (s : Suite) → IsText text
    → ComesAgain p file budget text (Ok s)
    → AreGood s.bench s.trials
good_passed q p is (Some f) small h file budget text s u c = absurd (cc)
good_passed q p is None small h file budget text s u c =
    good_found q p is h.0 small (table_unsound q h.0) refl h.1 file budget text s u c

good_loaded : (tree : Tree) (folders : List (List ℕ)) (x : Or Packages) (p : Packages) (file : List ℕ)
    → (load (world tree folders) (File file ∷ [])).answer ≡ x → TablePasses x (Ok p)
    → (budget : Option ℕ) (text : OrLine (List ℕ)) (s : Suite) → IsText text → ComesAgain p file budget text (Ok s)
    → AreGood s.bench s.trials
good_loaded tree folders (Err f) p file e h budget text s u c = absurd (cc)
good_loaded tree folders (Ok q) p file e h budget text s u c =
    let is = told_is_built tree folders q (by_roots (File file ∷ []) q e) in
    good_passed q p is (table_too_large q) refl h file budget text s u c

good_comes : (tree : Tree) (folders : List (List ℕ)) (file : List ℕ) (budget : Option ℕ) (paths asked : List (List ℕ))
    (o : OrLine Packages) (s : Suite) → TablePasses (loading tree folders file).answer o
    → SuiteComes tree file budget paths asked o (Ok s)
    → AreGood s.bench s.trials
good_comes tree folders file budget paths asked (Err line) s h c = absurd (cc)
good_comes tree folders file budget paths asked (Ok p) s h c =
    good_loaded tree folders (loading tree folders file).answer p file refl h budget
    (read_again file (file_of (encode_utf8_all file) tree)) s
    (text_read file (file_of (encode_utf8_all file) tree)) c.1

pub suite_good : (tree : Tree) (folders : List (List ℕ)) (file : List ℕ) (budget : Option ℕ) (asked : List (List ℕ))
    (s : Suite) → IsSuite tree folders file budget asked (Ok s) → SuitePays s.bench s.trials × TestsMean s.trials
suite_good tree folders file budget asked s is =
    let all : AreGood s.bench s.trials =
    good_comes tree folders file budget (map encode_utf8_all (loading tree folders file).asked) asked is.packages s
    is.loads is.comes in
    ((λ k t within. (all k t within).0), (λ k t within. (all k t within).1))

-- ---- the file is asked for

asks_file : (T : Type 0) (tree : Tree) (folders : List (List ℕ)) (file : List ℕ) (more : List (List ℕ))
    → map encode_utf8_all (loading tree folders file).asked ++ more ≡ [] → T
asks_file T tree folders file more none = absurd (cc)

tests_tell_by : (T : Type 0) (tree : Tree) (folders : List (List ℕ)) (file : List ℕ) (budget : Option ℕ)
    (asked : List (List ℕ)) (o : OrLine Packages) (r : OrLine Suite)
    → SuiteComes tree file budget (map encode_utf8_all (loading tree folders file).asked) asked o r → asked ≡ [] → T
tests_tell_by T tree folders file budget asked (Err line) r c none =
    asks_file T tree folders file [] (append-nil _ ∙ sym c.0 ∙ none)
tests_tell_by T tree folders file budget asked (Ok p) r c none =
    asks_file T tree folders file (encode_utf8_all file ∷ []) (sym c.0 ∙ none)

-- so what a file comes to is told only where the files tell
pub tests_tell : (T : Type 0) (tree : Tree) (folders : List (List ℕ)) (file : List ℕ) (budget : Option ℕ)
    (asked : List (List ℕ)) (r : OrLine Suite) → IsSuite tree folders file budget asked r → IsTold T asked → T
tests_tell T tree folders file budget asked r is (inl tells) = tells
tests_tell T tree folders file budget asked r is (inr none) =
    tests_tell_by T tree folders file budget asked is.packages r is.comes none

-- How a test comes out, by the machine's answer.
use Rattle.std.proofs.Common.{ℕ, ◌≡◌, ◌+◌, Bool, true, false, cond, List, [], ◌∷◌, length, refl, sym, ◌∙◌, ap, subst}
use Rattle.std.specs.Prelude.{Option, Some, None, Result, Ok, Err, IfOk, not, nat_lt, chars, encode_utf8_all}
use Rattle.std.specs.Prelude.{◌==◌, if◌then◌else◌}
use Rattle.std.proofs.Math.Logic.{∥∥₁_elim, ∥∥₁_map}
use Rattle.std.proofs.Props.{props}
use Rattle.std.proofs.lemmas.Bool.{false≢true}
use Rattle.std.proofs.lemmas.Str.{chars-encodes}
use Rattle.rpl_core.specs.Captures.{all_named}
use Rattle.rpl_core.specs.Forest.{Forest, NoTree, Tree, flat}
use Rattle.rpl_core.specs.Instr.{Instr}
use Rattle.rpl_core.specs.Outcome.{outcome}
use Rattle.rpl_core.specs.Run.{Answer, Matched, Failed, Unfinished, run}
use Rattle.rpl_core.specs.declared.caught.Caught.{Caught}
use Rattle.rpl_encode.specs.Answer.{answer, max_answer_bytes}
use Rattle.rpl_encode.specs.Print.{placed}
use Rattle.rpl_encode.specs.declared.style.Style.TheVariants.{Json}
use Rattle.rpl_tree.specs.Trees.{label_in, BuildsEach}
use Rattle.rpl_machine.specs.Shown.{captures_of, CapturesIn}
use Rattle.rpl_compile_laws.specs.Laws.{Tells}
use Rattle.rpl_compile_laws.proofs.OneTree.{one_tree_holds}
use Rattle.rpl_text.specs.Places.{at, index}
use Rattle.rpl_tree.specs.declared.node.Node.{Node}
use Rattle.rpl_unittest.specs.Laws.{BuiltAsOneTree}
use Rattle.rpl_unittest.specs.Verdicts.{is_met, part_of}
use Rattle.rpl_unittest.specs.Seen.{AreOneTree}
use Rattle.rpl_unittest.specs.declared.test.Test.{Test}
use Rattle.rosie_jobs.specs.Lines.{Job, budget_or, is_over, steps_made}
use Rattle.rosie_jobs.proofs.OneLine.{trees_same}
use Rattle.rosie_suites.specs.Trials.{Bench, HasCode, by_outcome, by_run, cost_of, ran, verdict_of}
use Rattle.rosie_suites.specs.inside.Ready.{IsReadyJob, IsText, AreOfTree, by_found}
use Rattle.rosie_suites.specs.declared.verdict.Verdict.{Verdict}
use Rattle.rosie_suites.specs.declared.verdict.Verdict.TheVariants.{Met, Unmet, Spent, LongAnswer, LongCode}

-- two verdicts are the same in at most one way, so a fact that is merely there tells which verdict is due
abbrev number : Verdict → ℕ
number Met = 0
number Unmet = 1
number Spent = 2
number LongAnswer = 3
number LongCode = 4

abbrev numbered : ℕ → Verdict
numbered n =
    if n == 0 then Met else (if n == 1 then Unmet
    else (if n == 2 then Spent else (if n == 3 then LongAnswer else LongCode)))

back : (v : Verdict) → numbered (number v) ≡ v
back Met = refl
back _ = refl

number_prop : (v w : Verdict) → IsProp (number v ≡ number w)
number_prop v w = Prim.hlevel props

pub verdict_by : {P : Type 0} (v w : Verdict) → ∥ P ∥₁ → (P → v ≡ w) → v ≡ w
verdict_by v w p f = sym (back v) ∙ ap numbered (∥∥₁_elim p (number_prop v w) (λ x. ap number (f x))) ∙ back w

-- the characters of a text's spelling
pub text_spelled : (t s : List ℕ) → IsText t → s ≡ encode_utf8_all t → chars s ≡ t
text_spelled t s is e = ap chars e ∙ chars-encodes t is.scalars

pub text_prop : (t : List ℕ) → IsProp (IsText t)
text_prop t = Prim.hlevel props

-- ---- the nodes of a match are one tree

tree_prop : (ns : List Node) → IsProp (AreOneTree ns)
tree_prop [] = Prim.hlevel props
tree_prop (n ∷ ns) = Prim.hlevel props

pub one_tree :
    (labels : List (List ℕ)) (caught : List Caught) (nodes : List Node) → BuiltAsOneTree → BuildsEach caught nodes
    → ∥ AreOfTree labels caught ∥₁ → AreOneTree nodes
one_tree labels caught nodes law builds tree =
    ∥∥₁_elim tree (tree_prop nodes) (λ t.
    law caught nodes (label_in labels) t.0 t.1 t.2 t.3 (builds (label_in labels) (Tree t.0 t.1 t.2 t.3 NoTree) t.4))

-- ---- by what was found

when_false : (b c : Bool) → not b ≡ c → c ≡ true → b ≡ false
when_false true c e h = absurd (false≢true (e ∙ h))
when_false false c e h = refl

when_true : (b c : Bool) → not b ≡ c → c ≡ false → b ≡ true
when_true true c e h = refl
when_true false c e h = absurd (false≢true (sym (e ∙ h)))

module _ (prefix : List ℕ) (t : Test) where
  abbrev long : Option Forest → Bool
  long found = nat_lt max_answer_bytes (length (answer Json (encode_utf8_all t.text) found))

  abbrev met : Option Forest → Bool
  met found = is_met t.verb prefix (part_of t.part) (encode_utf8_all t.text) found

  -- the answer is short enough, and the test is judged
  pub found_met : (x : Option Forest) (fits m : Bool) → fits ≡ not (long x) → fits ≡ true → m ≡ met x
      → cond m Met Unmet ≡ by_found prefix t x
  found_met x fits m e h is =
      ap (λ b. cond b Met Unmet) is
      ∙ sym (ap (λ b. cond b LongAnswer (cond (met x) Met Unmet)) (when_false (long x) fits (sym e) h))

  -- or it is too long
  pub found_long : (x : Option Forest) (fits : Bool) → fits ≡ not (long x) → fits ≡ false
      → LongAnswer ≡ by_found prefix t x
  found_long x fits e h = sym (ap (λ b. cond b LongAnswer (cond (met x) Met Unmet)) (when_true (long x) fits (sym e) h))

  -- where nothing was found there is no answer at all
  pub found_none : (m : Bool) → m ≡ met None → cond m Met Unmet ≡ by_found prefix t None
  found_none m is = ap (λ b. cond b Met Unmet) is

-- ---- by the answer of the machine

module _ (b : Bench) (t : Test) (job : Job) where
  abbrev most : ℕ
  most = budget_or b.budget t.text

  -- the run that was made is that of the test
  pub ran_by : (code : List Instr) (s : List ℕ) (k : ℕ) (a : Answer) → code ≡ job.code → s ≡ t.text → k ≡ most
      → run code s k ≡ a → ran b t job ≡ a
  ran_by code s k a ec es ek e =
      ap (λ x. run job.code t.text x) (sym ek) ∙ ap (λ x. run job.code x k) (sym es) ∙ ap (λ x. run x s k) (sym ec) ∙ e

  pub at_ran : (code : List Instr) (s : List ℕ) (k n p : ℕ) (labels : List (List ℕ)) (cs : List Caught)
      → code ≡ job.code → s ≡ t.text → k ≡ most → run code s k ≡ Matched n (index s p) (captures_of s labels cs)
      → ran b t job ≡ Matched n (index t.text p) (captures_of t.text labels cs)
  at_ran code s k n p labels cs ec es ek e =
      ran_by code s k (Matched n (index s p) (captures_of s labels cs)) ec es ek e
      ∙ ap (λ x. Matched n (index x p) (captures_of x labels cs)) es

  -- and so is that over the text's spelling
  pub ran_on : (code : List Instr) (bytes s : List ℕ) (k : ℕ) (a : Answer) → IsText t.text
      → bytes ≡ encode_utf8_all t.text → s ≡ chars bytes → k ≡ budget_or b.budget (chars bytes) → code ≡ job.code
      → run code s k ≡ a → ran b t job ≡ a
  ran_on code bytes s k a text spelled es ek ec e =
      let same = text_spelled t.text bytes text spelled in
      ran_by code s k a ec (es ∙ same) (ek ∙ ap (budget_or b.budget) same) e

  pub at_on : (code : List Instr) (bytes s : List ℕ) (k n p : ℕ) (labels : List (List ℕ)) (cs : List Caught)
      → IsText t.text → bytes ≡ encode_utf8_all t.text → s ≡ chars bytes → k ≡ budget_or b.budget (chars bytes)
      → code ≡ job.code → run code s k ≡ Matched n (index s p) (captures_of s labels cs) → CapturesIn s cs
      → (ran b t job ≡ Matched n (index t.text p) (captures_of t.text labels cs)) × CapturesIn t.text cs
  at_on code bytes s k n p labels cs text spelled es ek ec e inside =
      let same = text_spelled t.text bytes text spelled in
      let is = es ∙ same in (
        at_ran code s k n p labels cs ec is (ek ∙ ap (budget_or b.budget) same) e,
        subst (λ x. CapturesIn x cs) is inside,
      )

  by_answer : (a : Answer) → is_over (ran b t job) ≡ is_over a → is_over a ≡ false
      → by_outcome b t (outcome job.rules job.goal t.text) ≡ verdict_of b t (HasCode job)
  by_answer a e h = sym (ap (λ x. cond x Spent (by_outcome b t (outcome job.rules job.goal t.text))) (e ∙ h))

  told : IsText t.text → IsReadyJob job → (a : Answer) → ran b t job ≡ a
      → Tells (outcome job.rules job.goal t.text) most a
  told text ready a e = subst (Tells (outcome job.rules job.goal t.text) most) e (ready.meant t.text text.scalars most)

  -- a match
  at_verdict :
      (text : IsText t.text) (ready : IsReadyJob job) (labels : List (List ℕ)) (cs : List Caught) (n p : ℕ) (v :
      Verdict)
      → ran b t job ≡ Matched n (index t.text p) (captures_of t.text labels cs) → CapturesIn t.text cs
      → ((f : Forest) → all_named (label_in labels) cs ≡ flat f → v ≡ by_found b.prefix t (Some f))
      → v ≡ verdict_of b t (HasCode job)
  at_verdict text ready labels cs n p v e inside h =
      let a = Matched n (index t.text p) (captures_of t.text labels cs) in
      let k = told text ready a e in
      h (placed (at t.text) k.1) (trees_same t.text labels cs k.1 inside k.3)
      ∙ sym (ap (by_outcome b t) k.2) ∙ by_answer a (ap is_over e) refl

  pub match_verdict :
      (text : IsText t.text) (ready : ∥ IsReadyJob job ∥₁) (labels : List (List ℕ)) (cs : List Caught) (n p : ℕ) (v :
      Verdict)
      → ran b t job ≡ Matched n (index t.text p) (captures_of t.text labels cs) → CapturesIn t.text cs
      → ((f : Forest) → all_named (label_in labels) cs ≡ flat f → v ≡ by_found b.prefix t (Some f))
      → v ≡ verdict_of b t (HasCode job)
  match_verdict text ready labels cs n p v e inside h =
      verdict_by v (verdict_of b t (HasCode job)) ready (λ r. at_verdict text r labels cs n p v e inside h)

  pub match_verdicts :
      {E : Type 0} (r : Result Verdict E) (text : IsText t.text) (ready : ∥ IsReadyJob job ∥₁) (labels :
      List (List ℕ)) (cs : List Caught) (n p : ℕ)
      → ran b t job ≡ Matched n (index t.text p) (captures_of t.text labels cs) → CapturesIn t.text cs
      → IfOk r (λ v. (f : Forest) → all_named (label_in labels) cs ≡ flat f → v ≡ by_found b.prefix t (Some f))
      → IfOk r (λ v. v ≡ verdict_of b t (HasCode job))
  match_verdicts (Ok v) text ready labels cs n p e inside h = match_verdict text ready labels cs n p v e inside h
  match_verdicts (Err x) text ready labels cs n p e inside h = tt

  -- whose captures are those of one tree
  at_tree :
      (text : IsText t.text) (ready : IsReadyJob job) (labels : List (List ℕ)) (cs : List Caught) (n p : ℕ)
      → ran b t job ≡ Matched n (index t.text p) (captures_of t.text labels cs) → CapturesIn t.text cs
      → AreOfTree labels cs
  at_tree text ready labels cs n p e inside =
      let k = told text ready (Matched n (index t.text p) (captures_of t.text labels cs)) e in
      let one = one_tree_holds job.rules ready.label job.goal t.text k.0 (index t.text p) k.1 ready.root k.2 in (
        ready.label,
        at t.text 0,
        at t.text (index t.text p),
        placed (at t.text) one.0,
        trees_same t.text labels cs k.1 inside k.3 ∙ ap (λ f. flat (placed (at t.text) f)) one.1,
      )

  pub match_tree :
      (text : IsText t.text) (ready : ∥ IsReadyJob job ∥₁) (labels : List (List ℕ)) (cs : List Caught) (n p : ℕ)
      → ran b t job ≡ Matched n (index t.text p) (captures_of t.text labels cs) → CapturesIn t.text cs
      → ∥ AreOfTree labels cs ∥₁
  match_tree text ready labels cs n p e inside =
      ∥∥₁_map ready (λ r. at_tree text r labels cs n p e inside)

  -- no match
  fail_verdict : (text : IsText t.text) (ready : IsReadyJob job) (n : ℕ) (v : Verdict) → ran b t job ≡ Failed n
      → v ≡ by_found b.prefix t None → v ≡ verdict_of b t (HasCode job)
  fail_verdict text ready n v e h =
      let k = told text ready (Failed n) e in
      h ∙ sym (ap (by_outcome b t) k.1) ∙ by_answer (Failed n) (ap is_over e) refl

  pub none_verdict : (text : IsText t.text) (ready : ∥ IsReadyJob job ∥₁) (n : ℕ) (v : Verdict) → ran b t job ≡ Failed n
      → v ≡ by_found b.prefix t None → v ≡ verdict_of b t (HasCode job)
  none_verdict text ready n v e h =
      verdict_by v (verdict_of b t (HasCode job)) ready (λ r. fail_verdict text r n v e h)

  -- no end within the budget
  pub over_verdict : ran b t job ≡ Unfinished → Spent ≡ verdict_of b t (HasCode job)
  over_verdict e = sym (ap (λ a. by_run b t job a) e)

  pub steps_by : (a : Answer) (k s0 s1 : ℕ) → ran b t job ≡ a → k ≡ steps_made most a → s1 ≡ s0 + k
      → s1 ≡ s0 + cost_of b t (HasCode job)
  steps_by a k s0 s1 e h is = is ∙ ap (λ x. s0 + x) (h ∙ sym (ap (steps_made most) e))

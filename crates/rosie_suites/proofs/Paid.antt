-- When a test may pass its budget, and that allowed tests all have a verdict.
use Rattle.std.proofs.Common.{ℕ, zero, suc, ◌≡◌, Bool, true, false, ◌||◌, cond, List, [], ◌∷◌, ◌++◌, length}
use Rattle.std.proofs.Common.{get_or, refl, sym, ◌∙◌, ap, subst, arith}
use Rattle.std.specs.Prelude.{IfOk, Result, Ok, Err, map, nat_lt, encode_utf8_all}
use Rattle.std.proofs.Math.Logic.{∥∥₁_elim}
use Rattle.std.proofs.Props.{props}
use Rattle.std.proofs.lemmas.Bool.{false_from_ne_true}
use Rattle.rosie_run.specs.Report.{Piece, has, is_fault, is_stop}
use Rattle.rosie_run.specs.declared.mark.Mark.{Mark}
use Rattle.rosie_run.proofs.Pieces.{has_nil}
use Rattle.rpl_core.specs.Meaning.{Outcome}
use Rattle.rpl_core.specs.Outcome.{outcome}
use Rattle.rpl_encode.specs.Answer.{max_answer_bytes}
use Rattle.rpl_encode.specs.Print.{print, found, in_bytes}
use Rattle.rpl_encode.specs.declared.style.Style.TheVariants.{Json}
use Rattle.rpl_unittest.specs.Verdicts.{is_met, part_of}
use Rattle.rpl_unittest.specs.declared.test.Test.{Test}
use Rattle.rosie_jobs.specs.Lines.{Job, budget_or, is_over}
use Rattle.rosie_jobs.proofs.Allowed.{over_tells}
use Rattle.rosie_suites.specs.Limits.{IsWithin, IsAllowed, AreAllowed}
use Rattle.rosie_suites.specs.Budgets.{TestPays, SuitePays}
use Rattle.rosie_suites.specs.Trials.{Bench, Subject, Unbound, TooLong, HasCode, Trial, by_outcome, ran, verdict_of}
use Rattle.rosie_suites.specs.Trials.{counts_piece, hit_if_none, mark_of, suite_pieces, trial_piece, unmet}
use Rattle.rosie_suites.specs.Seen.{bench_of, trials_of}
use Rattle.rosie_suites.specs.inside.Ready.{AreReady, IsReady, IsText}
use Rattle.rosie_suites.specs.declared.suite.Suite.{Suite}
use Rattle.rosie_suites.specs.declared.verdict.Verdict.TheVariants.{Met, Unmet, Spent, LongAnswer}

-- ---- a budget is due

paid : (b : Bench) (t : Test) (s : Subject) → IsText t.text → IsReady s → TestPays b t s
paid b t (HasCode job) text ready = λ over.
    over_tells (outcome job.rules job.goal t.text) (budget_or b.budget t.text) (ran b t job) over
    (ready.meant t.text text.scalars (budget_or b.budget t.text))
paid b t _ text ready = tt

paid_prop : (b : Bench) (t : Test) (s : Subject) → IsProp (TestPays b t s)
paid_prop b t Unbound = Prim.hlevel props
paid_prop b t _ = Prim.hlevel props

pays_prop : (b : Bench) (ts : List Trial) → IsProp (SuitePays b ts)
pays_prop b ts = Prim.hlevel (props, paid_prop)

-- tests whose code does what their goals mean
pub suite_due : (b : Bench) (ts : List Trial) → ∥ AreReady ts ∥₁ → SuitePays b ts
suite_due b ts ready = ∥∥₁_elim ready (pays_prop b ts) (λ r k d lt. let h = r k d lt in
    paid b (get_or ts k d).test (get_or ts k d).subject h.0 h.1)

-- ---- tests that are allowed

-- a mark that neither ends the run nor stands for no answer
abbrev IsGood : Mark → Type 0
IsGood m = (is_stop m ≡ false) × (is_fault m ≡ false)

good_met : (m : Bool) → IsGood (mark_of (cond m Met Unmet))
good_met true = (refl, refl)
good_met false = (refl, refl)

module _ (b : Bench) (t : Test) where
  met_by : Outcome → Bool
  met_by o = is_met t.verb b.prefix (part_of t.part) (encode_utf8_all t.text) (in_bytes t.text (found o))

  good_outcome : (o : Outcome) (long : Bool) → nat_lt max_answer_bytes (length (print Json t.text o)) ≡ long
      → long ≡ false → IsGood (mark_of (by_outcome b t o))
  good_outcome o long e h =
      subst (λ x. IsGood (mark_of
      (cond x LongAnswer (cond (is_met t.verb b.prefix (part_of t.part) (encode_utf8_all t.text)
      (in_bytes t.text (found o))) Met Unmet)))) (sym (e ∙ h))
      (good_met (is_met t.verb b.prefix (part_of t.part) (encode_utf8_all t.text) (in_bytes t.text (found o))))

  good_run : (job : Job) → TestPays b t (HasCode job) → IsWithin b t job
      → IsGood (mark_of (verdict_of b t (HasCode job)))
  good_run job due h =
      let o = outcome job.rules job.goal t.text in
      let within : is_over (ran b t job) ≡ false = false_from_ne_true (is_over (ran b t job)) (λ over. let d =
      due over in let w = h.budget in absurd (omega arith)) in
      let fits : nat_lt max_answer_bytes (length (print Json t.text o)) ≡ false = let a = h.answer in
      grind (arith, a) in
      subst (λ x. IsGood (mark_of (cond x Spent (by_outcome b t o)))) (sym within) (good_outcome o false fits refl)

  good_subject : (s : Subject) → TestPays b t s → IsAllowed b t s → IsGood (mark_of (verdict_of b t s))
  good_subject Unbound due h = (refl, refl)
  good_subject TooLong due h = absurd h
  good_subject (HasCode job) due h = good_run job due h

good_counts : (n : ℕ) → IsGood (hit_if_none n)
good_counts zero = (refl, refl)
good_counts (suc n) = (refl, refl)

-- no piece ends the run, and none has no answer
pub record Clean (ps : List Piece) : Type 0 where
  pub stays : has is_stop ps ≡ false
  pub answers : has is_fault ps ≡ false

clean_cons : (p : Piece) (ps : List Piece) → IsGood p.mark → Clean ps → Clean (p ∷ ps)
unfolding has
clean_cons p ps g h = record {
  stays = ap (λ x. x || has is_stop ps) g.0 ∙ h.stays;
  answers = ap (λ x. x || has is_fault ps) g.1 ∙ h.answers;
}

clean_trials : (b : Bench) (last : Piece) (ts : List Trial) → IsGood last.mark → SuitePays b ts → AreAllowed b ts
    → Clean (map (trial_piece b) ts ++ last ∷ [])
clean_trials b last [] g due h = clean_cons last [] g (record { stays = has_nil is_stop; answers = has_nil is_fault })
clean_trials b last (t ∷ ts) g due h =
    clean_cons (trial_piece b t) (map (trial_piece b) ts ++ last ∷ [])
    (good_subject b t.test t.subject (due 0 t (omega arith)) (h 0 t (omega arith)))
    (clean_trials b last ts g (λ k d lt. due (suc k) d (omega arith)) (λ k d lt. h (suc k) d (omega arith)))

-- if a budget is exceeded only where that is due, and every test is allowed, then every test has a verdict
pub suite_clean : (b : Bench) (ts : List Trial) → SuitePays b ts → AreAllowed b ts → Clean (suite_pieces b ts)
suite_clean b ts due h =
    clean_trials b (counts_piece b.file (length ts) (unmet b ts)) ts (good_counts (unmet b ts)) due h

-- a suite's tests are ready
pub suite_pays : {E : Type 0} (result : Result Suite E) → IfOk result (λ s. SuitePays (bench_of s) (trials_of s))
suite_pays (Ok s) = suite_due (bench_of s) (trials_of s) s.ready
suite_pays (Err e) = tt

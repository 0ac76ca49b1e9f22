-- From test to test of a suite, and to the counts at the end.
use Rattle.std.proofs.Common.{ℕ, ◌≡◌, ◌+◌, ◌<◌, ◌≤◌, false, [], ◌∷◌, ◌++◌, get_or, drop, length}
use Rattle.std.proofs.Common.{sym, ◌∙◌, ap, subst, arith}
use Rattle.std.specs.Prelude.{map}
use Rattle.std.proofs.lemmas.List.{drop_all, drop_more}
use Rattle.rpl_core.specs.Table.{bodies_of}
use Rattle.rosie_suites.specs.Seen.{bench_of, trials_of}
use Rattle.rosie_suites.specs.Trials.{one_if_unmet, suite_pieces, trial_piece, unmet, verdict_in}
use Rattle.rosie_suites.specs.Tried.{trial_of}
use Rattle.rosie_suites.specs.declared.run.SuiteRun.{SuiteRun}
use Rattle.rosie_suites.specs.declared.suite.Suite.{Suite}
use Rattle.rosie_suites.specs.declared.trial.Trial.{Trial}
use Rattle.rosie_suites.specs.declared.verdict.Verdict.{Verdict}
use Rattle.rosie_suites.specs.declared.verdict.Verdict.TheVariants as V
use Rattle.rosie_suites.specs.inside.Running.{ComesBy, last_piece, pieces_from, trials_from}

pub one_fits : (v : Verdict) → one_if_unmet v ≤ 1
one_fits V.Met = omega arith
one_fits _ = omega arith

module _ (s : Suite) (i : ℕ) (x : Trial) (lt : i < length s.trials.items) (at : x ≡ get_or s.trials.items i x) where
  rest : drop i s.trials.items ≡ x ∷ drop (i + 1) s.trials.items
  rest = drop_more s.trials.items i x lt ∙ ap (λ y. y ∷ drop (i + 1) s.trials.items) (sym at)

  -- the piece of the next test comes first
  pub piece_next : pieces_from s i ≡ trial_piece (bench_of s) (trial_of (bodies_of s.rules) x) ∷ pieces_from s (i + 1)
  piece_next =
      ap (λ ys. map (trial_piece (bench_of s)) (map (trial_of (bodies_of s.rules)) ys) ++ last_piece s ∷ []) rest

  pub unmet_next : (k one n : ℕ) → one ≡ one_if_unmet (verdict_in (bench_of s) (trial_of (bodies_of s.rules) x))
      → k + unmet (bench_of s) (trials_from s i) ≡ n → (k + one) + unmet (bench_of s) (trials_from s (i + 1)) ≡ n
  unmet_next k one n is h =
      let step : unmet (bench_of s) (trials_from s i)
      ≡ one_if_unmet (verdict_in (bench_of s) (trial_of (bodies_of s.rules) x)) + unmet (bench_of s)
      (trials_from s (i + 1)) =
      ap (λ ys. unmet (bench_of s) (map (trial_of (bodies_of s.rules)) ys)) rest in
      omega arith

-- all tests were tried
module _ (s : Suite) (i : ℕ) (past : length s.trials.items ≤ i) where
  pub pieces_last : pieces_from s i ≡ last_piece s ∷ []
  pieces_last =
      ap (λ ys. map (trial_piece (bench_of s)) (map (trial_of (bodies_of s.rules)) ys) ++ last_piece s ∷ [])
      (drop_all i s.trials.items past)

  pub unmet_last : (k n : ℕ) → k + unmet (bench_of s) (trials_from s i) ≡ n → k ≡ n
  unmet_last k n h =
      let none : unmet (bench_of s) (trials_from s i) ≡ 0 =
      ap (λ ys. unmet (bench_of s) (map (trial_of (bodies_of s.rules)) ys)) (drop_all i s.trials.items past) in
      omega arith

-- where no test was tried, all pieces are to come
pub comes_begun : (r : SuiteRun) (s : Suite) → r.suite.now ≡ s → r.passed ≡ 0 → r.is_done ≡ false
    → ComesBy r.is_done r (suite_pieces (bench_of s) (trials_of s))
comes_begun r s suite passed opened =
    subst (λ b. ComesBy b r (suite_pieces (bench_of s) (trials_of s))) (sym opened)
    (ap (λ x. pieces_from x 0) (sym suite) ∙ ap (pieces_from r.suite.now) (sym passed))

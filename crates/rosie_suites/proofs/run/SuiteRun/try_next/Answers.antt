use Rattle.std.proofs.Common.{◌∙◌, refl, ap, arith}
use Rattle.rpl_core.specs.Table.{bodies_of}
use Rattle.std.proofs.lemmas.List.{get_or_default}
use Rattle.rosie_suites.specs.Seen.{bench_of, trials_of}
use Rattle.rosie_suites.specs.Tried.{trial_of}
use Rattle.rosie_suites.specs.Trials.{err_text, mark_of, one_if_unmet, out_text, trial_piece, unmet}
use Rattle.rosie_suites.proofs.Passing.{one_fits, piece_next, unmet_next}
use Rattle.rosie_suites.proofs.Tried.{bound_at, ready_at}
use Rattle.rosie_suites.proofs.run.SuiteRun.try_next.Goals as goal

pub try_test-requires-clause-bound : goal.try_test-requires-clause-bound
try_test-requires-clause-bound g c =
    let s = c.args.self.now.suite.now in
    let x = c.index-trial.result.now in
    let i = c.args.self.now.passed in
    bound_at (bodies_of s.rules) s.trials.items i x c.requires.more
    (c.index-trial.ensures ∙ get_or_default s.trials.items i _ x c.requires.more) s.bound

pub try_test-requires-clause-ready : goal.try_test-requires-clause-ready
try_test-requires-clause-ready g c =
    let s = c.args.self.now.suite.now in
    let x = c.index-trial.result.now in
    let i = c.args.self.now.passed in
    ready_at (trial_of (bodies_of s.rules)) s.trials.items i x c.requires.more
    (c.index-trial.ensures ∙ get_or_default s.trials.items i _ x c.requires.more) s.ready

pub returns-clause-gives : goal.returns-clause-gives
returns-clause-gives g c =
    let s = c.args.self.now.suite.now in
    let x = c.index-trial.result.now in
    let i = c.args.self.now.passed in
    let b = bench_of s in
    let v = c.in_ok-verdict.ensures.verdict in
    record {
      piece = trial_piece b (trial_of (bodies_of s.rules) x);
      more = _;
      is = piece_next s i x c.requires.more (c.index-trial.ensures
          ∙ get_or_default s.trials.items i _ x c.requires.more);
      made = record {
        marks = c.mark_of.ensures ∙ ap mark_of v;
        writes = c.in_ok-out.ensures ∙ ap (λ f. out_text f x.test c.in_ok-verdict.verdict) c.text_of-file.ensures
            ∙ ap (out_text b.file x.test) v;
        tells = c.in_ok-err.ensures ∙ ap (λ f. err_text f x.test c.in_ok-verdict.verdict) c.text_of-file.ensures
            ∙ ap (err_text b.file x.test) v;
      };
      steps = c.in_ok-verdict.ensures.steps;
      comes = refl;
    }

pub returns-clause-under_way : goal.returns-clause-under_way
returns-clause-under_way g c =
    let s = c.args.self.now.suite.now in
    let x = c.index-trial.result.now in
    let i = c.args.self.now.passed in
    let u = c.requires.under_way in
    let is = c.one_if_unmet.ensures in
    record {
      within = let more = c.requires.more in omega arith;
      few = let fits = one_fits c.in_ok-verdict.verdict in let before = u.few in omega arith;
      counted = unmet_next s i x c.requires.more (c.index-trial.ensures
          ∙ get_or_default s.trials.items i _ x c.requires.more)
          c.args.self.now.unmet c.one_if_unmet.result (unmet (bench_of s) (trials_of s)) (is
          ∙ ap one_if_unmet c.in_ok-verdict.ensures.verdict) u.counted;
      sound = c.in_ok-verdict.ensures.sound;
    }

use Rattle.std.proofs.Common.{◌≡◌, ◌≤◌, List, length}
use Rattle.std.specs.Prelude.{encode_utf8_all, map}
use Rattle.std.specs.List.{All}
use Rattle.std.specs.Vec.Iter.{into_iter_items, into_iter_len}
use Rattle.rpl_core.specs.Table.{bodies_of}
use Rattle.rpl_names.specs.Owned.{own}
use Rattle.rpl_names.specs.Sets.{set_seen}
use Rattle.rosie_suites.specs.Suites.{AreTrials}
use Rattle.rosie_suites.specs.Tried.{trial_of}
use Rattle.rosie_suites.specs.Trials.{Trial}
use Rattle.rosie_suites.specs.inside.Ready.{AreBound, AreReady}
use Rattle.rosie_suites.proofs.Tried.{Passed}
use Rattle.rosie_suites.proofs.trial.trials_of.Given as goal

-- of the trials that are due, those of the tests so far are made, and each is ready; no text that is left is too long
abbrev pub invariant-loop-test : goal.invariant-loop-test
invariant-loop-test l = record {
  passed : (due : List Trial) → AreTrials (bodies_of l.rules) (own (set_seen l.packages) l.number) l.fn.tests due
      → Passed (bodies_of l.rules) (own (set_seen l.packages) l.number) due
      (map (trial_of (bodies_of l.rules)) l.trials.items) (into_iter_items l.test-iterator);
  ready : ∥ AreReady (map (trial_of (bodies_of l.rules)) l.trials.items) ∥₁;
  bound : ∥ AreBound (bodies_of l.rules) l.trials.items ∥₁;
  short : All (λ t. length (encode_utf8_all t.text) ≤ 1048576) (into_iter_items l.test-iterator);
  left : into_iter_len l.test-iterator ≡ length (into_iter_items l.test-iterator);
}

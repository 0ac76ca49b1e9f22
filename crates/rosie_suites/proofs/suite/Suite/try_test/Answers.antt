use Rattle.std.proofs.Common.{◌≡◌, ◌+◌, subst}
use Rattle.std.specs.Prelude.{IfOk, OnOk}
use Rattle.std.proofs.Math.Logic.{∥∥₁_elim}
use Rattle.rpl_core.specs.Table.{bodies_of}
use Rattle.rosie_jobs.proofs.OneLine.{on_ok}
use Rattle.rosie_suites.specs.Seen.{bench_of}
use Rattle.rosie_suites.specs.Trials as T
use Rattle.rosie_suites.proofs.Entries.{ready_of, subject_at}
use Rattle.rosie_suites.proofs.Judged.{text_prop}
use Rattle.rosie_suites.proofs.suite.Suite.try_test.Goals as goal

pub try_subject-requires-clause-ready : goal.try_subject-requires-clause-ready
try_subject-requires-clause-ready g c =
    let made = c.in_ok-place.ensures in
    ready_of (bodies_of c.args.self.now.rules) _ c.args.trial.now.target c.in_ok-place.place _ _ made.sound made.stands
    c.index.ensures

pub try_subject-requires-clause-text : goal.try_subject-requires-clause-text
try_subject-requires-clause-text g c = ∥∥₁_elim c.requires.ready (text_prop c.args.trial.now.test.text) (λ r. r.0)

pub returns-clause-sound : goal.returns-clause-sound
returns-clause-sound g c = on_ok c.try_subject.result c.in_ok-place.ensures.sound

pub returns-clause-verdict : goal.returns-clause-verdict
returns-clause-verdict g c =
    let made = c.in_ok-place.ensures in
    subst (λ s. IfOk c.try_subject.result (λ v. v ≡ T.verdict_of (bench_of c.args.self.now) c.args.trial.now.test s))
    (subject_at (bodies_of c.args.self.now.rules) _ c.args.trial.now.target c.in_ok-place.place _ _ made.sound
    made.stands c.index.ensures) c.try_subject.ensures.verdict

pub returns-clause-steps : goal.returns-clause-steps
returns-clause-steps g c =
    let made = c.in_ok-place.ensures in
    subst (λ s. OnOk c.try_subject.result (c.try_subject.new.steps
    ≡ c.args.steps.now + T.cost_of (bench_of c.args.self.now) c.args.trial.now.test s))
    (subject_at (bodies_of c.args.self.now.rules) _ c.args.trial.now.target c.in_ok-place.place _ _ made.sound
    made.stands c.index.ensures) c.try_subject.ensures.steps

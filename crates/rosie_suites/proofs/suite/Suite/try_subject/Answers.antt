use Rattle.std.proofs.Common.{subst}
use Rattle.rpl_core.specs.Table.{bodies_of}
use Rattle.rosie_suites.specs.inside.Entries.{subject_of}
use Rattle.rosie_suites.specs.inside.Ready.{IsReady}
use Rattle.rosie_suites.proofs.suite.Suite.try_subject.Goals as goal

pub try_goal-requires-clause-ready : goal.try_goal-requires-clause-ready
try_goal-requires-clause-ready g c =
    subst (λ s. ∥ IsReady (subject_of (bodies_of c.args.self.now.rules) s) ∥₁) c.in-Runs.is c.requires.ready

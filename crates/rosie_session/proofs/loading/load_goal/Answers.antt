use Rattle.std.proofs.Common.{refl, subst}
use Rattle.std.specs.Prelude.{chars}
use Rattle.rosie_prepare.proofs.Loads.{asked_through}
use Rattle.rosie_prepare.specs.Prepared.{OrLine, Ready}
use Rattle.rosie_repl.specs.States.{session_of}
use Rattle.rosie_session.specs.Loading.{Compiles}
use Rattle.rosie_session.specs.inside.Turning.{GivesJob}
use Rattle.rosie_session.proofs.Turns.{due_compiles, goal_prepared, none_asked, own_asked, own_cause, stops_through}
use Rattle.rosie_session.proofs.loading.load_goal.Goals as goal

pub returns-clause-gives : goal.returns-clause-gives
returns-clause-gives g c = λ w is t.
    let texts = (session_of c.args.state.now).now.texts in
    let l = w.goal texts (chars c.args.pattern.now) in
    let h = is.goals texts (chars c.args.pattern.now) in
    let due = c.in_ok-ready.ensures.prepares l.asked t h.ready
    (goal_prepared (g.F.Source.tree c.args.files.now) c.args.folders.now texts c.in_ok-roots.roots c.args.pattern.now l
    c.in_ok-roots.ensures c.utf8.pattern h) in
    c.make_job.ensures.gives l.answer (subst (λ (r : OrLine Ready). Compiles r l.answer) due h.compiles)

pub returns-clause-asked : goal.returns-clause-asked
returns-clause-asked g c = λ w is t.
    let texts = (session_of c.args.state.now).now.texts in
    let l = w.goal texts (chars c.args.pattern.now) in
    let h = is.goals texts (chars c.args.pattern.now) in
    own_asked c.make_job.result c.in_ok-ready.ready _ _ l.asked c.make_job.ensures.own
    (c.in_ok-ready.ensures.asked l.asked t h.ready
    (goal_prepared (g.F.Source.tree c.args.files.now) c.args.folders.now texts c.in_ok-roots.roots c.args.pattern.now l
    c.in_ok-roots.ensures c.utf8.pattern h))

pub returns-in_err-roots-clause-asked : goal.returns-in_err-roots-clause-asked
returns-in_err-roots-clause-asked g c = λ w is t. none_asked c.from_residual.result _ _ _ refl c.from_residual.ensures.1

pub returns-clause-cause : goal.returns-clause-cause
returns-clause-cause g c = own_cause c.make_job.result _ _ c.make_job.ensures.own c.in_ok-ready.ensures.cause

pub returns-in_err-ready-clause-gives : goal.returns-in_err-ready-clause-gives
returns-in_err-ready-clause-gives g c = λ w is t.
    let texts = (session_of c.args.state.now).now.texts in
    let l = w.goal texts (chars c.args.pattern.now) in
    let h = is.goals texts (chars c.args.pattern.now) in
    let u = c.in_err-ready.field-0.0 in
    stops_through (λ r. GivesJob r l.answer) c.from_residual-in_err-ready.result u
    c.from_residual-in_err-ready.ensures.1
    (due_compiles u h.ready l.answer
    (c.in_err-ready.ensures.prepares l.asked t h.ready
    (goal_prepared (g.F.Source.tree c.args.files.now) c.args.folders.now texts c.in_ok-roots.roots c.args.pattern.now l
    c.in_ok-roots.ensures c.utf8.pattern h))
    h.compiles)

pub returns-in_err-ready-clause-asked : goal.returns-in_err-ready-clause-asked
returns-in_err-ready-clause-asked g c = λ w is t.
    let texts = (session_of c.args.state.now).now.texts in
    let l = w.goal texts (chars c.args.pattern.now) in
    let h = is.goals texts (chars c.args.pattern.now) in
    asked_through _ _ l.asked c.from_residual-in_err-ready.result c.in_err-ready.field-0.0
    c.from_residual-in_err-ready.ensures.1
    (c.in_err-ready.ensures.asked l.asked t h.ready
    (goal_prepared (g.F.Source.tree c.args.files.now) c.args.folders.now texts c.in_ok-roots.roots c.args.pattern.now l
    c.in_ok-roots.ensures c.utf8.pattern h))

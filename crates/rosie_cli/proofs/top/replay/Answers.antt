use Rattle.std.proofs.Common.{subst}
use Rattle.rosie_run.specs.declared.tool.Tool.TheVariants.{Rosie}
use Rattle.rosie_cli.specs.Plans.{Planned, KnowsInputs}
use Rattle.rosie_cli.proofs.Calls.{answers_of, goes_unrefused}
use Rattle.rosie_cli.proofs.Opened.{session_opened, session_unhidden}
use Rattle.rosie_cli.proofs.Paying.{pays_session}
use Rattle.rosie_cli.proofs.Whole.{session_goes, session_runs}
use Rattle.rosie_cli.proofs.top.replay.Goals as goal

pub returns-clause-answers : goal.returns-clause-answers
returns-clause-answers g c =
    let e = c.run_session-run.ensures in
    let rest = g.I.Source.rest c.args.inputs.now.input.now in
    let closes = c.finish.ensures.closes Rosie c.run_session-run.new.outputs.steps.now in
    answers_of _ c.run_session-run.result _ _ closes e.cause e.sinks
    c.finish.ensures.cause
    (λ p t s inputs.
    let tells = subst (λ (q : Planned). KnowsInputs q.plan g.F.Source.tells g.I.Source.tells rest) s.plan inputs in
    session_runs c.run_session-run.result _ p s.loading _ _ _ _ _ s.plan (e.runs tells.0 s.loading s.loads tells.1))
    (λ p t s inputs.
    let tells = subst (λ (q : Planned). KnowsInputs q.plan g.F.Source.tells g.I.Source.tells rest) s.plan inputs in
    session_goes c.run_session-run.result p _ (e.rest tells.0))
    (λ p t s. session_opened c.run_session-run.result _ _ p s.loading _ _ _ s.plan closes (λ known.
    e.asked known.0 s.loading s.loads known.1))
    (λ p t s. session_unhidden _ _ p s.loading _ _ s.plan) e.past_end
    (λ p s. pays_session _ _ p s)

pub returns-clause-goes_on : goal.returns-clause-goes_on
returns-clause-goes_on g c =
    goes_unrefused c.run_session-run.result c.finish.result _ _ _
    (c.finish.ensures.closes Rosie c.run_session-run.new.outputs.steps.now) c.run_session-run.ensures.goes_on

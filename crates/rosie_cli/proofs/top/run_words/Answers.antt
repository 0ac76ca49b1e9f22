use Rattle.std.proofs.Common.{refl, subst, sym}
use Rattle.std.specs.Prelude.{Err, string_bytes}
use Rattle.rosie_run.specs.Outputs.{failures, shown}
use Rattle.rosie_run.specs.declared.ended.Ended.TheVariants as E
use Rattle.rosie_run.proofs.Pieces.{fronts_none}
use Rattle.rosie_words.specs.Reading.{words_of}
use Rattle.rosie_run.specs.declared.tool.Tool.TheVariants.{Rosie}
use Rattle.rosie_cli.specs.Planned.{LeavesStandard}
use Rattle.rosie_cli.specs.Plans.{refusal}
use Rattle.rosie_cli.specs.Words.{IsSession, NeedsNothing, command_line}
use Rattle.rosie_cli.proofs.Calls.{answers_by, answers_of, untouched_cause}
use Rattle.rosie_cli.proofs.Opened.{none_opened, refused_opened, still_unhidden}
use Rattle.rosie_run.specs.Sources.{span_of}
use Rattle.rosie_cli.proofs.Paying.{promise_holds}
use Rattle.rosie_cli.proofs.Whole.{do_planned, planned_goes, refused_is, refused_plan, refused_runs, said_goes}
use Rattle.rosie_cli.proofs.top.run_words.Goals as goal

pub returns-in-Refuse-clause-answers : goal.returns-in-Refuse-clause-answers
returns-in-Refuse-clause-answers g c =
    let text = string_bytes c.in-Refuse.text in
    let a = command_line (words_of c.args.words.now) in
    let e = rw c.in-Refuse.is at c.in-Ok.ensures in
    let r = c.refuse-run.result in
    let closes = c.finish.ensures.closes Rosie c.args.outputs.now.steps.now in
    answers_of _ r _ _ closes
    (untouched_cause r c.refuse-run.ensures.no_cut _ _)
    c.refuse-run.ensures.sinks c.finish.ensures.cause
    (λ p known is inputs. refused_runs r _ p text _ _ _ _ _ (refused_plan a text _ p e is)
    (c.refuse-run.ensures.runs c.args.outputs.now.steps.now))
    (λ p known is inputs. planned_goes r p (refusal text) _ (refused_plan a text _ p e is)
    (said_goes r (refusal text) _ tt))
    (λ p t is. refused_opened r _ _ p text _ _ (refused_is a text _ p e is) c.refuse-run.ensures.no_cut closes)
    (λ p t is. still_unhidden (span_of g.F.Source c.args.inputs.now.files.now c.args.inputs.now.files.now) p _ _ _
    (record { faults = refl; opens = refl }))
    (λ _. refl)
    (λ p is. promise_holds a _ p is)

pub returns-in-Err-clause-answers : goal.returns-in-Err-clause-answers
returns-in-Err-clause-answers g c =
    answers_of _ (Err E.NoMemory) (shown g.O.Sink g.E.Sink c.args.outputs.now.out.now c.args.outputs.now.err.now
    c.args.outputs.now.steps.now)
    (failures g.O.Sink g.E.Sink c.args.outputs.now.out.now c.args.outputs.now.err.now)
    (c.finish-in-Err.ensures.closes Rosie c.args.outputs.now.steps.now)
    (untouched_cause (Err E.NoMemory) tt _ _) (refl, refl) c.finish-in-Err.ensures.cause
    (λ p known is inputs. fronts_none _ _ _) (λ p known is inputs. tt)
    (λ p t is. none_opened p.plan _ _ p _ (c.finish-in-Err.ensures.closes Rosie c.args.outputs.now.steps.now).1)
    (λ p t is. still_unhidden (span_of g.F.Source c.args.inputs.now.files.now c.args.inputs.now.files.now) p _ _ _
    (record { faults = refl; opens = refl }))
    (λ _. refl)
    (λ p is. promise_holds (command_line (words_of c.args.words.now)) _ p is)

pub returns-in-Do-clause-answers : goal.returns-in-Do-clause-answers
returns-in-Do-clause-answers g c =
    let a = command_line (words_of c.args.words.now) in
    let e = rw c.in-Do.is at c.in-Ok.ensures in
    answers_by _ _ (λ p is. do_planned a c.in-Do.command _ p e is)
    c.run_command.ensures.answers

pub returns-in-Do-clause-untouched : goal.returns-in-Do-clause-untouched
returns-in-Do-clause-untouched g c = λ n.
    c.run_command.ensures.untouched (subst NeedsNothing (sym (rw c.in-Do.is at c.in-Ok.ensures)) n)

pub returns-in-Do-clause-unread : goal.returns-in-Do-clause-unread
returns-in-Do-clause-unread g c = λ p files is.
    let a = command_line (words_of c.args.words.now) in
    let e = rw c.in-Do.is at c.in-Ok.ensures in
    c.run_command.ensures.unread p files (do_planned a c.in-Do.command _ p e is)

pub returns-in-Do-clause-unrun : goal.returns-in-Do-clause-unrun
returns-in-Do-clause-unrun g c = λ p files is.
    let a = command_line (words_of c.args.words.now) in
    let e = rw c.in-Do.is at c.in-Ok.ensures in
    c.run_command.ensures.unrun p files (do_planned a c.in-Do.command _ p e is)

pub returns-in-Refuse-clause-goes_on : goal.returns-in-Refuse-clause-goes_on
returns-in-Refuse-clause-goes_on g c = λ session.
    absurd (subst IsSession (sym (rw c.in-Refuse.is at c.in-Ok.ensures)) session)

pub returns-in-Do-clause-goes_on : goal.returns-in-Do-clause-goes_on
returns-in-Do-clause-goes_on g c = λ session.
    c.run_command.ensures.goes_on (subst IsSession (sym (rw c.in-Do.is at c.in-Ok.ensures)) session)

pub returns-in-Do-clause-unnamed : goal.returns-in-Do-clause-unnamed
returns-in-Do-clause-unnamed g c = λ n.
    c.run_command.ensures.unnamed (subst LeavesStandard (sym (rw c.in-Do.is at c.in-Ok.ensures)) n)

pub returns-in-Err-clause-goes_on : goal.returns-in-Err-clause-goes_on
returns-in-Err-clause-goes_on g c = λ session refused.
    let out = (c.finish-in-Err.ensures.closes Rosie c.args.outputs.now.steps.now).1 in absurd (cc)

use Rattle.rosie_run.specs.declared.tool.Tool.TheVariants.{Rosie}
use Rattle.rosie_cli.proofs.Calls.{answers_by, answers_of}
use Rattle.rosie_cli.proofs.NoSession.{planned_none}
use Rattle.rosie_cli.proofs.Opened.{opened_run, unhidden_run}
use Rattle.rosie_cli.proofs.Paying.{pays_planned}
use Rattle.rosie_cli.proofs.Whole.{session_takes_input, session_works}
use Rattle.rosie_cli.proofs.top.run_command.Goals as goal

pub returns-in-Repl-clause-answers : goal.returns-in-Repl-clause-answers
returns-in-Repl-clause-answers g c =
    answers_by _ _ (λ p is. rw c.in-Repl.is at is) c.replay.ensures.answers

pub returns-in-Repl-clause-unread : goal.returns-in-Repl-clause-unread
returns-in-Repl-clause-unread g c = λ p t is n.
    let s = rw c.in-Repl.is at is in absurd (session_takes_input p s.loading s.plan n)

pub returns-in_default-clause-answers : goal.returns-in_default-clause-answers
returns-in_default-clause-answers g c =
    let e = c.run_planned-run.ensures in
    let closes = c.finish.ensures.closes Rosie c.run_planned-run.new.outputs.steps.now in
    answers_of _ c.run_planned-run.result _ _ closes e.cause e.sinks
    c.finish.ensures.cause (λ p t is inputs. e.runs p t is inputs) (λ p t is inputs. e.rest p t is inputs)
    (λ p t is.
    let a = e.asked p t is in
    opened_run c.run_planned-run.result _ _ p _ _ _
    (planned_none c.args.command c.args.command.what _ p c.in_default.not-Repl is) closes (record {
      front = a.front;
      back = a.back;
      inputs = a.inputs;
      paths = a.paths;
      asked = a.asked;
      till = a.till;
      goes_on = a.goes_on;
      ended = a.ended;
    }))
    (λ p t is. unhidden_run _ p _ _ c.run_planned-run.result _ _ _ _ closes (e.unhidden p t is)) e.past_end
    (λ p is. pays_planned c.args.command c.args.command.what _ p is)

pub returns-in-Repl-clause-unrun : goal.returns-in-Repl-clause-unrun
returns-in-Repl-clause-unrun g c = λ p t is n.
    let s = rw c.in-Repl.is at is in absurd (session_works p s.loading s.plan n)

pub returns-in-Repl-clause-unnamed : goal.returns-in-Repl-clause-unnamed
returns-in-Repl-clause-unnamed g c = λ n. let m = rw c.in-Repl.is at n in absurd (cc)

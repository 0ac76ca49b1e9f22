use Rattle.std.proofs.Common.{arith}
use Rattle.rpl_core.specs.Listed.{rules_of}
use Rattle.rpl_core.specs.Table.{bodies_of}
use Rattle.rpl_text.specs.Seen.{text_of}
use Rattle.rpl_trace.specs.inside.Steps.{due, state_of}
use Rattle.rpl_trace.specs.declared.event.End.TheVariants as E
use Rattle.rpl_trace.specs.declared.task.Task.TheVariants as T
use Rattle.rpl_trace.proofs.Going as G
use Rattle.rpl_trace.proofs.States as A
use Rattle.rpl_trace.proofs.Parts.{no_items, rest_whole}
use Rattle.rpl_trace.proofs.tracer.Tracer.go_on.Goals as goal

pub evaluate-requires-clause-stands : goal.evaluate-requires-clause-stands
evaluate-requires-clause-stands c =
    let R = bodies_of (rules_of c.args.rules.now) in
    let x = text_of c.args.text in
    let s = state_of c.args.self.now in
    A.stands_more x s (state_of c.push.new.self) _ c.in_ok-push-in-len1-up.ensures tt c.requires.stands

pub returns-in-empty-clause-goes : goal.returns-in-empty-clause-goes
returns-in-empty-clause-goes c =
    let R = bodies_of (rules_of c.args.rules.now) in
    let x = text_of c.args.text in
    let s = state_of c.args.self.now in
    G.stays R x (T.Parts c.args.parts) s (E.At c.args.place) c.requires.place c.requires.stands
    (λ o f h. G.parts_over R x c.args.parts c.args.place s o f (no_items c.args.parts.now (omega arith)) h)

pub returns-in_err-push-in-len1-up-clause-goes : goal.returns-in_err-push-in-len1-up-clause-goes
returns-in_err-push-in-len1-up-clause-goes c =
    let R = bodies_of (rules_of c.args.rules.now) in
    let x = text_of c.args.text in
    let s = state_of c.args.self.now in
    G.memory_exit R x (due (T.Parts c.args.parts) s) (E.At c.args.place) (state_of c.push.new.self)
    c.from_residual.result c.from_residual.ensures.1

pub returns-in_ok-push-in-len1-up-clause-goes : goal.returns-in_ok-push-in-len1-up-clause-goes
returns-in_ok-push-in-len1-up-clause-goes c =
    let R = bodies_of (rules_of c.args.rules.now) in
    let x = text_of c.args.text in
    let s = state_of c.args.self.now in
    G.part_goes R x c.args.parts _ _ c.args.place s (state_of c.push.new.self) (state_of c.evaluate.new.self)
    c.evaluate.result c.in_ok-push-in-len1-up.ensures c.evaluate.ensures.goes (rest_whole c.args.parts.now)
    c.in-len1-up.len_at_least c.first-item.is

pub returns-in_ok-push-in-len1-up-clause-less : goal.returns-in_ok-push-in-len1-up-clause-less
returns-in_ok-push-in-len1-up-clause-less c =
    let R = bodies_of (rules_of c.args.rules.now) in
    let x = text_of c.args.text in
    let s = state_of c.args.self.now in
    G.part_less _ s (state_of c.push.new.self) (state_of c.evaluate.new.self) c.evaluate.result
    c.in_ok-push-in-len1-up.ensures c.evaluate.ensures.less

use Rattle.std.proofs.Common.{refl}
use Rattle.rpl_core.specs.Listed.{rules_of}
use Rattle.rpl_core.specs.Table.{bodies_of}
use Rattle.rpl_core.specs.View.{core_of}
use Rattle.rpl_text.specs.Seen.{text_of}
use Rattle.rpl_trace.specs.inside.Steps.{due, state_of}
use Rattle.rpl_trace.specs.declared.event.End.TheVariants as E
use Rattle.rpl_trace.specs.declared.task.Task.TheVariants as T
use Rattle.rpl_trace.proofs.Going as G
use Rattle.rpl_trace.proofs.States as A
use Rattle.rpl_trace.proofs.tracer.Tracer.evaluate.Goals as goal

pub enter-requires-clause-stands : goal.enter-requires-clause-stands
enter-requires-clause-stands c =
    let R = bodies_of (rules_of c.args.rules.now) in
    let x = text_of c.args.text in
    let s = state_of c.args.self.now in
    A.stands_begun x s (state_of c.begin.new.self) _ c.args.place c.in_ok-begin.ensures.ok c.in_ok-begin.ensures.room
    c.requires.place c.requires.stands

pub returns-in_err-begin-clause-goes : goal.returns-in_err-begin-clause-goes
returns-in_err-begin-clause-goes c =
    let R = bodies_of (rules_of c.args.rules.now) in
    let x = text_of c.args.text in
    let s = state_of c.args.self.now in
    G.full_exit R x (due (T.Evaluate c.args.peg) s) (E.At c.args.place) (state_of c.begin.new.self)
    c.from_residual.result c.in_err-begin.field-0.0 c.from_residual.ensures.1 c.in_err-begin.ensures.err
    (G.evaluation_due R x c.args.peg c.args.place s)

pub returns-in_err-enter-clause-goes : goal.returns-in_err-enter-clause-goes
returns-in_err-enter-clause-goes c =
    let R = bodies_of (rules_of c.args.rules.now) in
    let x = text_of c.args.text in
    let s = state_of c.args.self.now in
    G.memory_exit R x (due (T.Evaluate c.args.peg) s) (E.At c.args.place) (state_of c.enter.new.self)
    c.from_residual-in_err-enter.result c.from_residual-in_err-enter.ensures.1

pub returns-clause-goes : goal.returns-clause-goes
returns-clause-goes c =
    let R = bodies_of (rules_of c.args.rules.now) in
    let x = text_of c.args.text in
    let s = state_of c.args.self.now in
    G.evaluated R x c.args.peg (core_of c.alone-peg.result.now) _ c.args.place s (state_of c.begin.new.self) _
    (state_of c.enter.new.self) c.alone-peg.ensures.alike c.alone-peg.ensures.more refl c.in_ok-begin.ensures.ok
    c.in_ok-enter.ensures

pub returns-clause-less : goal.returns-clause-less
returns-clause-less c =
    let R = bodies_of (rules_of c.args.rules.now) in
    let x = text_of c.args.text in
    let s = state_of c.args.self.now in
    G.evaluated_less R x (core_of c.alone-peg.result.now) _ c.args.place s (state_of c.begin.new.self) _
    (state_of c.enter.new.self) c.in_ok-begin.ensures.ok c.in_ok-begin.ensures.room c.in_ok-enter.ensures

use Rattle.rpl_core.specs.Listed.{rules_of}
use Rattle.rpl_core.specs.Table.{bodies_of}
use Rattle.rpl_text.specs.Seen.{text_of}
use Rattle.rpl_trace.specs.inside.Steps.{due, state_of}
use Rattle.rpl_trace.specs.declared.event.End.TheVariants as E
use Rattle.rpl_trace.specs.declared.task.Task.TheVariants as T
use Rattle.rpl_trace.proofs.Going as G
use Rattle.rpl_trace.proofs.tracer.Tracer.try_next.Goals as goal

pub returns-then-ways-eq1-clause-goes : goal.returns-then-ways-eq1-clause-goes
returns-then-ways-eq1-clause-goes c =
    let R = bodies_of (rules_of c.args.rules.now) in
    let x = text_of c.args.text in
    let s = state_of c.args.self.now in
    G.way_goes R x c.args.ways _ c.args.place s (state_of c.evaluate.new.self) c.evaluate.result c.evaluate.ensures.goes
    c.if-ways-eq1.true c.index-ways-0.is

pub returns-then-ways-eq1-clause-less : goal.returns-then-ways-eq1-clause-less
returns-then-ways-eq1-clause-less c = G.no_more _ _ c.evaluate.result c.evaluate.ensures.less

pub returns-in_err-begin-clause-goes : goal.returns-in_err-begin-clause-goes
returns-in_err-begin-clause-goes c =
    let R = bodies_of (rules_of c.args.rules.now) in
    let x = text_of c.args.text in
    let s = state_of c.args.self.now in
    G.full_exit R x (due (T.Ways c.args.ways c.args.place) s) E.Fails (state_of c.begin.new.self) c.from_residual.result
    c.in_err-begin.field-0.0 c.from_residual.ensures.1 c.in_err-begin.ensures.err
    (G.ways_due R x c.args.ways c.args.place s)

pub returns-in_err-choose-clause-goes : goal.returns-in_err-choose-clause-goes
returns-in_err-choose-clause-goes c =
    let R = bodies_of (rules_of c.args.rules.now) in
    let x = text_of c.args.text in
    let s = state_of c.args.self.now in
    G.memory_exit R x (due (T.Ways c.args.ways c.args.place) s) E.Fails (state_of c.choose.new.self)
    c.from_residual-in_err-choose.result c.from_residual-in_err-choose.ensures.1

pub returns-clause-goes : goal.returns-clause-goes
returns-clause-goes c =
    let R = bodies_of (rules_of c.args.rules.now) in
    let x = text_of c.args.text in
    let s = state_of c.args.self.now in
    G.ways_go R x c.args.ways c.args.place s (state_of c.begin.new.self) _ (state_of c.choose.new.self)
    c.if-ways-eq1.false c.in_ok-begin.ensures.ok c.in_ok-begin.ensures.room c.requires.place c.requires.stands
    c.in_ok-choose.ensures

pub returns-clause-less : goal.returns-clause-less
returns-clause-less c =
    let R = bodies_of (rules_of c.args.rules.now) in
    let x = text_of c.args.text in
    let s = state_of c.args.self.now in
    G.ways_less R x c.args.ways c.args.place s (state_of c.begin.new.self) _ (state_of c.choose.new.self)
    c.if-ways-eq1.false c.in_ok-begin.ensures.ok c.in_ok-begin.ensures.room c.requires.place c.requires.stands
    c.in_ok-choose.ensures

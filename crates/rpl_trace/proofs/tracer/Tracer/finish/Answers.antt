use Rattle.std.proofs.Common.{reverse, ap, subst, arith}
use Rattle.rpl_core.specs.Listed.{rules_of}
use Rattle.rpl_core.specs.Table.{bodies_of}
use Rattle.rpl_text.specs.Seen.{text_of}
use Rattle.rpl_trace.specs.inside.Steps.{State, Stands, Done, state_of}
use Rattle.rpl_trace.proofs.Going as G
use Rattle.rpl_trace.proofs.States as A
use Rattle.rpl_trace.proofs.tracer.Tracer.finish.Goals as goal

pub loop-task-init : goal.loop-task-init
loop-task-init c = G.rests (bodies_of (rules_of c.args.rules.now)) (text_of c.args.text) (state_of c.args.self.now)
    c.args.start c.requires.start c.requires.stands

pub step-requires-clause-task : goal.step-requires-clause-task
step-requires-clause-task c =
    let w = c.loop-task.self in
    (A.stands_rest (text_of c.args.text) (state_of w) _ c.in-Some.task
    (A.popped w.tasks.items c.pop.new.self.items c.in-Some.task (reverse w.events.items) w.spent w.limit
    c.in-Some.ensures.items) c.loop-task.invariant.stands).0

pub step-requires-clause-stands : goal.step-requires-clause-stands
step-requires-clause-stands c =
    let w = c.loop-task.self in
    (A.stands_rest (text_of c.args.text) (state_of w) _ c.in-Some.task
    (A.popped w.tasks.items c.pop.new.self.items c.in-Some.task (reverse w.events.items) w.spent w.limit
    c.in-Some.ensures.items) c.loop-task.invariant.stands).1

pub loop-task-preserved : goal.loop-task-preserved
loop-task-preserved c =
    let w = c.loop-task.self in
    G.and_then (bodies_of (rules_of c.args.rules.now)) (text_of c.args.text) (state_of c.args.self.now) (state_of w) _
    (state_of c.step.new.self) c.args.start c.loop-task.end _ c.loop-task.invariant
    (A.popped w.tasks.items c.pop.new.self.items c.in-Some.task (reverse w.events.items) w.spent w.limit
    c.in-Some.ensures.items) c.in_ok-end.ensures.goes

pub loop-task-smaller : goal.loop-task-smaller
loop-task-smaller c =
    let w = c.loop-task.self in
    A.left_less (state_of w) _ c.in-Some.task _ (A.popped w.tasks.items c.pop.new.self.items c.in-Some.task
    (reverse w.events.items) w.spent w.limit c.in-Some.ensures.items) c.in_ok-end.ensures.less

pub returns-in_err-end-clause-refused : goal.returns-in_err-end-clause-refused
returns-in_err-end-clause-refused c =
    let w = c.loop-task.self in
    let R = bodies_of (rules_of c.args.rules.now) in
    let x = text_of c.args.text in
    G.refused_exit R x (state_of c.args.self.now) c.args.start c.from_residual.result c.in_err-end.field-0.0
    c.from_residual.ensures.1
    (G.and_refused R x (state_of c.args.self.now) (state_of w) _ c.args.start c.loop-task.end c.in_err-end.field-0.0
    c.loop-task.invariant
    (A.popped w.tasks.items c.pop.new.self.items c.in-Some.task (reverse w.events.items) w.spent w.limit
    c.in-Some.ensures.items) c.in_err-end.ensures.goes)

pub returns-clause-done : goal.returns-clause-done
returns-clause-done c = λ o f h.
    let w = c.loop-task.self in
    let a = c.in_default.ensures.cases in
    let old = A.nil_from_length w.tasks.items (let b = a.0 in omega (arith, w.tasks.ok.0)) in
    let new = A.nil_from_length c.pop.new.self.items (let b = a.1 in omega (arith, c.pop.new.self.ok.0)) in
    let same = A.none_left w.tasks.items c.pop.new.self.items (reverse w.events.items) w.spent w.limit old new in
    let D : State → Type 0 = λ s. Done (text_of c.args.text) o f s c.loop-task.end in
    subst D same (G.all_done (bodies_of (rules_of c.args.rules.now)) (text_of c.args.text) (state_of c.args.self.now)
    (state_of w) c.args.start c.loop-task.end o f c.loop-task.invariant (ap reverse old) h)

pub step-requires-clause-end : goal.step-requires-clause-end
step-requires-clause-end c = c.loop-task.invariant.ends

pub returns-clause-stands : goal.returns-clause-stands
returns-clause-stands c =
    let w = c.loop-task.self in
    let a = c.in_default.ensures.cases in
    let old = A.nil_from_length w.tasks.items (let b = a.0 in omega (arith, w.tasks.ok.0)) in
    let new = A.nil_from_length c.pop.new.self.items (let b = a.1 in omega (arith, c.pop.new.self.ok.0)) in
    let same = A.none_left w.tasks.items c.pop.new.self.items (reverse w.events.items) w.spent w.limit old new in
    let S : State → Type 0 = Stands (text_of c.args.text) in
    (subst S same c.loop-task.invariant.stands, c.loop-task.invariant.ends)

pub returns-clause-limit : goal.returns-clause-limit
returns-clause-limit c = c.loop-task.invariant.limit

use Rattle.std.proofs.Common.{Ok, sym, subst}
use Rattle.rpl_core.specs.Listed.{rules_of}
use Rattle.rpl_core.specs.Table.{bodies_of}
use Rattle.rpl_text.specs.Seen.{text_of}
use Rattle.rpl_trace.specs.inside.Seen.{EndStands}
use Rattle.rpl_trace.specs.inside.Steps.{Goes, due, state_of}
use Rattle.rpl_trace.specs.declared.event.End.{End}
use Rattle.rpl_trace.specs.declared.event.End.TheVariants as E
use Rattle.rpl_trace.specs.declared.task.Task.TheVariants as T
use Rattle.rpl_trace.proofs.Going as G
use Rattle.rpl_trace.specs.inside.Tasks.{TaskStands}
use Rattle.rpl_trace.specs.declared.task.Task.{Task}
use Rattle.rpl_trace.proofs.tracer.Tracer.step.Goals as goal

pub evaluate-requires-clause-place : goal.evaluate-requires-clause-place
evaluate-requires-clause-place c = let S : End → Type 0 = EndStands (text_of c.args.text) in
    subst S c.in-At.is c.requires.end

pub go_on-requires-clause-place : goal.go_on-requires-clause-place
go_on-requires-clause-place c = let S : End → Type 0 = EndStands (text_of c.args.text) in
    subst S c.in-At-end.is c.requires.end

pub try_next-requires-clause-place : goal.try_next-requires-clause-place
try_next-requires-clause-place c = let S : Task → Type 0 = TaskStands (text_of c.args.text) in
    subst S c.in-Ways.is c.requires.task

pub try_length-requires-clause-lengths : goal.try_length-requires-clause-lengths
try_length-requires-clause-lengths c = let S : Task → Type 0 = TaskStands (text_of c.args.text) in
    subst S c.in-Lengths.is c.requires.task

pub returns-in-At-clause-goes : goal.returns-in-At-clause-goes
returns-in-At-clause-goes c =
    let R = bodies_of (rules_of c.args.rules.now) in
    let x = text_of c.args.text in
    let s = state_of c.args.self.now in
    let P : Task → End → Type 0 = λ y z. Goes R x (due y s) z (state_of c.evaluate.new.self) c.evaluate.result in
    let Q : Task → Type 0 = λ y. P y c.args.end in
    subst Q (sym c.in-Evaluate.is) (subst (P (T.Evaluate c.in-Evaluate.peg)) (sym c.in-At.is) c.evaluate.ensures.goes)

pub returns-in-At-clause-less : goal.returns-in-At-clause-less
returns-in-At-clause-less c = G.no_more _ _ c.evaluate.result c.evaluate.ensures.less

pub returns-in-Fails-clause-goes : goal.returns-in-Fails-clause-goes
returns-in-Fails-clause-goes c =
    let R = bodies_of (rules_of c.args.rules.now) in
    let x = text_of c.args.text in
    let s = state_of c.args.self.now in
    G.skips R x c.args.task (T.Evaluate c.in-Evaluate.peg) s c.args.end E.Fails c.in-Evaluate.is c.in-Fails.is
    c.requires.end c.requires.stands (λ o f h. h)

pub returns-in-Halts-clause-goes : goal.returns-in-Halts-clause-goes
returns-in-Halts-clause-goes c =
    let R = bodies_of (rules_of c.args.rules.now) in
    let x = text_of c.args.text in
    let s = state_of c.args.self.now in
    G.skips R x c.args.task (T.Evaluate c.in-Evaluate.peg) s c.args.end _ c.in-Evaluate.is c.in-Halts.is c.requires.end
    c.requires.stands (λ o f h. h)

pub returns-in-At-end-clause-goes : goal.returns-in-At-end-clause-goes
returns-in-At-end-clause-goes c =
    let R = bodies_of (rules_of c.args.rules.now) in
    let x = text_of c.args.text in
    let s = state_of c.args.self.now in
    let P : Task → End → Type 0 = λ y z. Goes R x (due y s) z (state_of c.go_on.new.self) c.go_on.result in
    let Q : Task → Type 0 = λ y. P y c.args.end in
    subst Q (sym c.in-Parts.is) (subst (P (T.Parts c.in-Parts.parts)) (sym c.in-At-end.is) c.go_on.ensures.goes)

pub returns-in-Fails-end-clause-goes : goal.returns-in-Fails-end-clause-goes
returns-in-Fails-end-clause-goes c =
    let R = bodies_of (rules_of c.args.rules.now) in
    let x = text_of c.args.text in
    let s = state_of c.args.self.now in
    G.skips R x c.args.task (T.Parts c.in-Parts.parts) s c.args.end E.Fails c.in-Parts.is c.in-Fails-end.is
    c.requires.end c.requires.stands (λ o f h. h)

pub returns-in-Halts-end-clause-goes : goal.returns-in-Halts-end-clause-goes
returns-in-Halts-end-clause-goes c =
    let R = bodies_of (rules_of c.args.rules.now) in
    let x = text_of c.args.text in
    let s = state_of c.args.self.now in
    G.skips R x c.args.task (T.Parts c.in-Parts.parts) s c.args.end _ c.in-Parts.is c.in-Halts-end.is c.requires.end
    c.requires.stands (λ o f h. h)

pub returns-in-Fails-end-2-clause-goes : goal.returns-in-Fails-end-2-clause-goes
returns-in-Fails-end-2-clause-goes c =
    let R = bodies_of (rules_of c.args.rules.now) in
    let x = text_of c.args.text in
    let s = state_of c.args.self.now in
    let P : Task → End → Type 0 = λ y z. Goes R x (due y s) z (state_of c.try_next.new.self) c.try_next.result in
    let Q : Task → Type 0 = λ y. P y c.args.end in
    subst Q (sym c.in-Ways.is) (subst (P (T.Ways c.in-Ways.parts c.in-Ways.place)) (sym c.in-Fails-end-2.is)
    c.try_next.ensures.goes)

pub returns-in-At-end-2-clause-goes : goal.returns-in-At-end-2-clause-goes
returns-in-At-end-2-clause-goes c =
    let R = bodies_of (rules_of c.args.rules.now) in
    let x = text_of c.args.text in
    let s = state_of c.args.self.now in
    G.skips R x c.args.task (T.Ways c.in-Ways.parts c.in-Ways.place) s c.args.end _ c.in-Ways.is c.in-At-end-2.is
    c.requires.end c.requires.stands (λ o f h. h)

pub returns-in-Halts-end-2-clause-goes : goal.returns-in-Halts-end-2-clause-goes
returns-in-Halts-end-2-clause-goes c =
    let R = bodies_of (rules_of c.args.rules.now) in
    let x = text_of c.args.text in
    let s = state_of c.args.self.now in
    G.skips R x c.args.task (T.Ways c.in-Ways.parts c.in-Ways.place) s c.args.end _ c.in-Ways.is c.in-Halts-end-2.is
    c.requires.end c.requires.stands (λ o f h. h)

pub returns-in-Fails-end-3-clause-goes : goal.returns-in-Fails-end-3-clause-goes
returns-in-Fails-end-3-clause-goes c =
    let R = bodies_of (rules_of c.args.rules.now) in
    let x = text_of c.args.text in
    let s = state_of c.args.self.now in
    let P : Task → End → Type 0 = λ y z. Goes R x (due y s) z (state_of c.try_length.new.self) c.try_length.result in
    let Q : Task → Type 0 = λ y. P y c.args.end in
    subst Q (sym c.in-Lengths.is) (subst (P (T.Lengths c.in-Lengths.lengths)) (sym c.in-Fails-end-3.is)
    (c.try_length.ensures.goes R))

pub returns-in-At-end-3-clause-goes : goal.returns-in-At-end-3-clause-goes
returns-in-At-end-3-clause-goes c =
    let R = bodies_of (rules_of c.args.rules.now) in
    let x = text_of c.args.text in
    let s = state_of c.args.self.now in
    G.skips R x c.args.task (T.Lengths c.in-Lengths.lengths) s c.args.end _ c.in-Lengths.is c.in-At-end-3.is
    c.requires.end c.requires.stands (λ o f h. h)

pub returns-in-Halts-end-3-clause-goes : goal.returns-in-Halts-end-3-clause-goes
returns-in-Halts-end-3-clause-goes c =
    let R = bodies_of (rules_of c.args.rules.now) in
    let x = text_of c.args.text in
    let s = state_of c.args.self.now in
    G.skips R x c.args.task (T.Lengths c.in-Lengths.lengths) s c.args.end _ c.in-Lengths.is c.in-Halts-end-3.is
    c.requires.end c.requires.stands (λ o f h. h)

pub returns-in-Turns-clause-goes : goal.returns-in-Turns-clause-goes
returns-in-Turns-clause-goes c =
    let R = bodies_of (rules_of c.args.rules.now) in
    let x = text_of c.args.text in
    let s = state_of c.args.self.now in
    let S : Task → Type 0 = TaskStands x in
    let P : Task → Type 0 = λ y. Goes R x (due y s) c.args.end (state_of c.end_turn.new.self) c.end_turn.result in
    subst P (sym c.in-Turns.is) (c.end_turn.ensures.goes R x (subst S c.in-Turns.is c.requires.task) c.requires.end
    c.requires.stands)

pub returns-in-Not-clause-goes : goal.returns-in-Not-clause-goes
returns-in-Not-clause-goes c =
    let R = bodies_of (rules_of c.args.rules.now) in
    let x = text_of c.args.text in
    let s = state_of c.args.self.now in
    let S : Task → Type 0 = TaskStands x in
    G.changes R x c.args.task (T.Not c.in-Not.place) s c.args.end c.if_failed.result _ c.in-Not.is
    (c.if_failed.ensures.end x) (λ o f h. h) (c.if_failed.ensures.stands x (subst S c.in-Not.is c.requires.task))
    c.requires.stands

pub returns-in-And-clause-goes : goal.returns-in-And-clause-goes
returns-in-And-clause-goes c =
    let R = bodies_of (rules_of c.args.rules.now) in
    let x = text_of c.args.text in
    let s = state_of c.args.self.now in
    let S : Task → Type 0 = TaskStands x in
    G.changes R x c.args.task (T.And c.in-And.place) s c.args.end c.if_matched.result _ c.in-And.is
    (c.if_matched.ensures.end x) (λ o f h. h) (c.if_matched.ensures.stands x (subst S c.in-And.is c.requires.task))
    c.requires.stands

pub returns-in-Meets-clause-goes : goal.returns-in-Meets-clause-goes
returns-in-Meets-clause-goes c =
    let R = bodies_of (rules_of c.args.rules.now) in
    let x = text_of c.args.text in
    let s = state_of c.args.self.now in
    let S : Task → Type 0 = TaskStands x in
    let pl = subst S c.in-Meets.is c.requires.task in
    G.changes R x c.args.task (T.Meets c.in-Meets.place) s c.args.end c.if_met.result _ c.in-Meets.is
    (c.if_met.ensures.end x pl c.requires.end) (λ o f h. h) (c.if_met.ensures.stands x pl) c.requires.stands

pub returns-in_err-close-in-Close-clause-goes : goal.returns-in_err-close-in-Close-clause-goes
returns-in_err-close-in-Close-clause-goes c =
    let R = bodies_of (rules_of c.args.rules.now) in
    let x = text_of c.args.text in
    let s = state_of c.args.self.now in
    G.memory_exit R x (due c.args.task s) c.args.end (state_of c.close.new.self) c.from_residual.result
    c.from_residual.ensures.1

pub returns-in_ok-close-in-Close-clause-goes : goal.returns-in_ok-close-in-Close-clause-goes
returns-in_ok-close-in-Close-clause-goes c =
    let R = bodies_of (rules_of c.args.rules.now) in
    let x = text_of c.args.text in
    let s = state_of c.args.self.now in
    let new = state_of c.close.new.self in
    let P : Task → Type 0 = λ y. Goes R x (due y s) c.args.end new (Ok c.in_ok-close-in-Close.field-0) in
    subst P (sym c.in-Close.is) (G.closes R x s new c.args.end c.in_ok-close-in-Close.field-0 c.requires.end
    c.requires.stands c.in_ok-close-in-Close.ensures.0 c.in_ok-close-in-Close.ensures.1)

pub returns-in_ok-close-in-Close-clause-less : goal.returns-in_ok-close-in-Close-clause-less
returns-in_ok-close-in-Close-clause-less c =
    G.left_same _ (state_of c.args.self.now) (state_of c.close.new.self) c.in_ok-close-in-Close.ensures.1

use Rattle.std.proofs.Common.{◌≡◌, ◌-◌, suc, sym, ◌∙◌, arith}
use Rattle.rpl_text.specs.Places.{index}
use Rattle.rpl_text.specs.Seen.{text_of}
use Rattle.rpl_trace.specs.inside.Steps.{due, state_of}
use Rattle.rpl_trace.specs.declared.event.End.TheVariants as E
use Rattle.rpl_trace.specs.declared.task.Task.TheVariants as T
use Rattle.rpl_trace.proofs.Going as G
use Rattle.rpl_text.proofs.Walks.{index_le, back_is, back_not}
use Rattle.rpl_trace.proofs.tracer.Tracer.try_length.Goals as goal

pub back-requires : goal.back-requires
back-requires c = c.requires.lengths.0

pub returns-then-lengths-eq0-clause-goes : goal.returns-then-lengths-eq0-clause-goes
returns-then-lengths-eq0-clause-goes c = λ R.
    let x = text_of c.args.text in
    let s = state_of c.args.self.now in
    let l = c.args.lengths in
    G.stays R x (T.Lengths l) s E.Fails tt c.requires.stands
    (λ o f h. G.lengths_over R x l s o f c.if-lengths-eq0.true h)

pub returns-in_err-begin-clause-goes : goal.returns-in_err-begin-clause-goes
returns-in_err-begin-clause-goes c = λ R.
    let x = text_of c.args.text in
    let s = state_of c.args.self.now in
    let l = c.args.lengths in
    let more : l.count ≡ suc (l.count - 1) = let ne = c.if-lengths-eq0.false in omega arith in
    G.full_exit R x (due (T.Lengths l) s) E.Fails (state_of c.begin.new.self) c.from_residual.result
    c.in_err-begin.field-0.0 c.from_residual.ensures.1 c.in_err-begin.ensures.err
    (λ o f h. G.length_due R x l (l.count - 1) s o f more h)

pub returns-in_err-push-clause-goes : goal.returns-in_err-push-clause-goes
returns-in_err-push-clause-goes c = λ R.
    let x = text_of c.args.text in
    let s = state_of c.args.self.now in
    let l = c.args.lengths in
    G.memory_exit R x (due (T.Lengths l) s) E.Fails _ c.from_residual-in_err-push.result
    c.from_residual-in_err-push.ensures.1

pub returns-in_err-nest-in-Some-clause-goes : goal.returns-in_err-nest-in-Some-clause-goes
returns-in_err-nest-in-Some-clause-goes c = λ R.
    let x = text_of c.args.text in
    let s = state_of c.args.self.now in
    let l = c.args.lengths in
    G.memory_exit R x (due (T.Lengths l) s) E.Fails _ c.from_residual-in_err-nest-in-Some.result
    c.from_residual-in_err-nest-in-Some.ensures.1

pub returns-in_err-close-in-None-clause-goes : goal.returns-in_err-close-in-None-clause-goes
returns-in_err-close-in-None-clause-goes c = λ R.
    let x = text_of c.args.text in
    let s = state_of c.args.self.now in
    let l = c.args.lengths in
    G.memory_exit R x (due (T.Lengths l) s) E.Fails _ c.from_residual-in_err-close-in-None.result
    c.from_residual-in_err-close-in-None.ensures.1

pub returns-in_ok-nest-in-Some-clause-goes : goal.returns-in_ok-nest-in-Some-clause-goes
returns-in_ok-nest-in-Some-clause-goes c = λ R.
    let x = text_of c.args.text in
    let s = state_of c.args.self.now in
    let l = c.args.lengths in
    let more : l.count ≡ suc (l.count - 1) = let ne = c.if-lengths-eq0.false in omega arith in
    let b = back_is x (index x l.place) l.length c.in-Some.start (index_le x l.place) (sym c.in-Some.is
    ∙ c.back.ensures) in
    G.back_steps R x l (l.count - 1) c.in-Some.start s (state_of c.begin.new.self) (state_of c.push.new.self)
    (state_of c.nest.new.self) _ more c.requires.lengths c.requires.stands c.in_ok-begin.ensures.ok
    c.in_ok-begin.ensures.room c.in_ok-push.ensures b c.in_ok-nest-in-Some.ensures.0 c.in_ok-nest-in-Some.ensures.1

pub returns-in_ok-nest-in-Some-clause-less : goal.returns-in_ok-nest-in-Some-clause-less
returns-in_ok-nest-in-Some-clause-less c =
    let x = text_of c.args.text in
    let s = state_of c.args.self.now in
    let l = c.args.lengths in
    G.back_less l _ _ l.place _ s (state_of c.begin.new.self) (state_of c.push.new.self) (state_of c.nest.new.self)
    c.in_ok-begin.ensures.ok c.in_ok-begin.ensures.room c.in_ok-push.ensures c.in_ok-nest-in-Some.ensures.1

pub returns-in_ok-close-in-None-clause-goes : goal.returns-in_ok-close-in-None-clause-goes
returns-in_ok-close-in-None-clause-goes c = λ R.
    let x = text_of c.args.text in
    let s = state_of c.args.self.now in
    let l = c.args.lengths in
    let more : l.count ≡ suc (l.count - 1) = let ne = c.if-lengths-eq0.false in omega arith in
    let b = back_not x (index x l.place) l.length (sym c.in-None.is ∙ c.back.ensures) in
    G.short_steps R x l (l.count - 1) s (state_of c.begin.new.self) (state_of c.push.new.self)
    (state_of c.close.new.self) _ more c.requires.lengths c.requires.stands c.in_ok-begin.ensures.ok
    c.in_ok-begin.ensures.room c.in_ok-push.ensures b c.in_ok-close-in-None.ensures.0 c.in_ok-close-in-None.ensures.1

pub returns-in_ok-close-in-None-clause-less : goal.returns-in_ok-close-in-None-clause-less
returns-in_ok-close-in-None-clause-less c =
    let x = text_of c.args.text in
    let s = state_of c.args.self.now in
    let l = c.args.lengths in
    G.short_less _ _ _ l.place s (state_of c.begin.new.self) (state_of c.push.new.self) (state_of c.close.new.self)
    c.in_ok-begin.ensures.ok c.in_ok-begin.ensures.room c.in_ok-push.ensures c.in_ok-close-in-None.ensures.1

use Rattle.std.proofs.Common.{sym, subst}
use Rattle.rpl_trace.specs.inside.Steps.{Goes, due, state_of}
use Rattle.rpl_trace.specs.declared.event.End.{End}
use Rattle.rpl_trace.specs.declared.event.End.TheVariants as E
use Rattle.rpl_trace.specs.declared.task.Task.TheVariants as T
use Rattle.rpl_trace.proofs.Going as G
use Rattle.rpl_trace.proofs.tracer.Tracer.end_turn.Goals as goal

pub returns-in_err-spend-in-At-clause-goes : goal.returns-in_err-spend-in-At-clause-goes
returns-in_err-spend-in-At-clause-goes c = λ R t pl es st.
    let s = state_of c.args.self.now in
    let task = T.Turns c.args.body c.args.place in
    let P : End → Type 0 = λ x. Goes R t (due task s) x (state_of c.spend.new.self) c.from_residual.result in
    subst P (sym c.in-At.is)
    (G.full_exit R t (due task s) (E.At c.in-At.next) (state_of c.spend.new.self) c.from_residual.result
    c.in_err-spend-in-At.field-0.0 c.from_residual.ensures.1 (λ _. c.in_err-spend-in-At.ensures.err.1)
    (G.turn_due R t c.args.body c.args.place c.in-At.next s))

pub returns-in_err-note-in-At-clause-goes : goal.returns-in_err-note-in-At-clause-goes
returns-in_err-note-in-At-clause-goes c = λ R t pl es st.
    let s = state_of c.args.self.now in
    let task = T.Turns c.args.body c.args.place in
    G.memory_exit R t (due task s) c.args.end _ c.from_residual-in_err-note-in-At.result
    c.from_residual-in_err-note-in-At.ensures.1

pub returns-in_err-turn-in-At-clause-goes : goal.returns-in_err-turn-in-At-clause-goes
returns-in_err-turn-in-At-clause-goes c = λ R t pl es st.
    let s = state_of c.args.self.now in
    let task = T.Turns c.args.body c.args.place in
    G.memory_exit R t (due task s) c.args.end _ c.from_residual-in_err-turn-in-At.result
    c.from_residual-in_err-turn-in-At.ensures.1

pub returns-in_err-note-in-Fails-clause-goes : goal.returns-in_err-note-in-Fails-clause-goes
returns-in_err-note-in-Fails-clause-goes c = λ R t pl es st.
    let s = state_of c.args.self.now in
    let task = T.Turns c.args.body c.args.place in
    G.memory_exit R t (due task s) c.args.end _ c.from_residual-in_err-note-in-Fails.result
    c.from_residual-in_err-note-in-Fails.ensures.1

pub returns-in_err-note-in-Halts-clause-goes : goal.returns-in_err-note-in-Halts-clause-goes
returns-in_err-note-in-Halts-clause-goes c = λ R t pl es st.
    let s = state_of c.args.self.now in
    let task = T.Turns c.args.body c.args.place in
    G.memory_exit R t (due task s) c.args.end _ c.from_residual-in_err-note-in-Halts.result
    c.from_residual-in_err-note-in-Halts.ensures.1

pub returns-in_ok-turn-in-At-clause-goes : goal.returns-in_ok-turn-in-At-clause-goes
returns-in_ok-turn-in-At-clause-goes c = λ R t pl es st.
    let s = state_of c.args.self.now in
    let task = T.Turns c.args.body c.args.place in
    G.turn_steps R t c.args.body c.args.place c.in-At.next s (state_of c.spend.new.self) (state_of c.note.new.self)
    (state_of c.turn.new.self) c.args.end _ c.in-At.is c.in_ok-spend-in-At.ensures.ok c.in_ok-spend-in-At.ensures.room
    c.in_ok-note-in-At.ensures c.in_ok-turn-in-At.ensures.0 c.in_ok-turn-in-At.ensures.1 es st

pub returns-in_ok-turn-in-At-clause-less : goal.returns-in_ok-turn-in-At-clause-less
returns-in_ok-turn-in-At-clause-less c =
    let s = state_of c.args.self.now in
    G.turn_less c.args.body c.in-At.next s (state_of c.spend.new.self) (state_of c.note.new.self)
    (state_of c.turn.new.self) (E.At c.in-At.next) c.in_ok-spend-in-At.ensures.ok c.in_ok-spend-in-At.ensures.room
    c.in_ok-note-in-At.ensures c.in_ok-turn-in-At.ensures.1

pub returns-in_ok-note-in-Fails-clause-goes : goal.returns-in_ok-note-in-Fails-clause-goes
returns-in_ok-note-in-Fails-clause-goes c = λ R t pl es st.
    let s = state_of c.args.self.now in
    let task = T.Turns c.args.body c.args.place in
    G.turn_failed R t c.args.body c.args.place s (state_of c.note-in-Fails.new.self) c.args.end c.in-Fails.is pl st
    c.in_ok-note-in-Fails.ensures

pub returns-in_ok-note-in-Fails-clause-less : goal.returns-in_ok-note-in-Fails-clause-less
returns-in_ok-note-in-Fails-clause-less c =
    let s = state_of c.args.self.now in
    G.left_same _ s (state_of c.note-in-Fails.new.self) c.in_ok-note-in-Fails.ensures

pub returns-in_ok-note-in-Halts-clause-goes : goal.returns-in_ok-note-in-Halts-clause-goes
returns-in_ok-note-in-Halts-clause-goes c = λ R t pl es st.
    let s = state_of c.args.self.now in
    let task = T.Turns c.args.body c.args.place in
    G.turn_halted R t c.args.body c.args.place _ s (state_of c.note-in-Halts.new.self) c.args.end c.in-Halts.is es st
    c.in_ok-note-in-Halts.ensures

pub returns-in_ok-note-in-Halts-clause-less : goal.returns-in_ok-note-in-Halts-clause-less
returns-in_ok-note-in-Halts-clause-less c =
    let s = state_of c.args.self.now in
    G.left_same _ s (state_of c.note-in-Halts.new.self) c.in_ok-note-in-Halts.ensures

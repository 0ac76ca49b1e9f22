use Rattle.std.proofs.Common.{List, ℕ, ap, refl, subst, sym}
use Rattle.std.specs.Prelude.{Ok, Option}
use Rattle.rosie_repl.specs.Edits.{in_chars}
use Rattle.rosie_repl.specs.Seen.{edit_seen}
use Rattle.rosie_repl.specs.Session.{changed, undone}
use Rattle.rosie_repl.specs.States.{session_of}
use Rattle.rosie_session.specs.Replay.{Turn, change_turn, try_turn, undo_turn}
use Rattle.rosie_session.specs.inside.Turning.{Asks, StepsBy, Turns}
use Rattle.rosie_session.proofs.Told.{same_turn}
use Rattle.rosie_session.proofs.Turns.{change_cost, edit_change, loads_none, none_asks, none_cost, steps_none}
use Rattle.rosie_session.proofs.Turns.{try_none, undo_asks, undo_cost}
use Rattle.rosie_session.proofs.turn.obey.Goals as goal

pub try_with-requires : goal.try_with-requires
try_with-requires g c = c.requires c.in-Try.line.now (ap edit_seen c.in-Try.is)

pub returns-in_ok-wrong-in-None-clause-turns : goal.returns-in_ok-wrong-in-None-clause-turns
returns-in_ok-wrong-in-None-clause-turns g c = λ w is.
    let s = session_of c.args.state.now in
    rw c.in-Try.is (λ t.
    try_none w c.args.base.now.number s c.in-Try.line.now s.now.pattern c.in_ok-wrong-in-None.field-0
    (sym c.in-None.ensures) c.in_ok-wrong-in-None.ensures)

pub returns-in_ok-wrong-in-None-clause-steps : goal.returns-in_ok-wrong-in-None-clause-steps
returns-in_ok-wrong-in-None-clause-steps g c = λ w is.
    let s = session_of c.args.state.now in
    rw c.in-Try.is (λ t.
    none_cost w c.args.base.now.number s c.in-Try.line.now s.now.pattern c.args.steps.now (sym c.in-None.ensures))

pub returns-in-Some-clause-turns : goal.returns-in-Some-clause-turns
returns-in-Some-clause-turns g c = λ w is.
    let s = session_of c.args.state.now in
    let turn : Option (List ℕ) → Turn = λ o. try_turn w c.args.base.now.number s o c.in-Try.line.now in
    rw c.in-Try.is
    (same_turn g.F.Source.tells (λ (x : Turn). Turns c.try_with.result x s) _ _ (ap turn c.in-Some.ensures)
    (c.try_with.ensures.turns w is))

pub returns-in-Some-clause-steps : goal.returns-in-Some-clause-steps
returns-in-Some-clause-steps g c = λ w is.
    let s = session_of c.args.state.now in
    let turn : Option (List ℕ) → Turn = λ o. try_turn w c.args.base.now.number s o c.in-Try.line.now in
    rw c.in-Try.is
    (same_turn g.F.Source.tells (λ (x : Turn). StepsBy c.try_with.result x c.args.steps.now c.try_with.new.steps) _ _
    (ap turn c.in-Some.ensures) (c.try_with.ensures.steps w is))

pub returns-in_ok-undo-in-Undo-clause-turns : goal.returns-in_ok-undo-in-Undo-clause-turns
returns-in_ok-undo-in-Undo-clause-turns g c = λ w is. rw c.in-Undo.is (λ t. c.in_ok-undo-in-Undo.ensures)

pub returns-in_ok-undo-in-Undo-clause-steps : goal.returns-in_ok-undo-in-Undo-clause-steps
returns-in_ok-undo-in-Undo-clause-steps g c = λ w is.
    let s = session_of c.args.state.now in
    rw c.in-Undo.is (λ t.
    steps_none (Ok c.in_ok-undo-in-Undo.field-0) (undo_turn c.args.base.now.number s (undone s)) c.args.steps.now
    (undo_cost c.args.base.now.number s (undone s)))

pub returns-in_default-clause-turns : goal.returns-in_default-clause-turns
returns-in_default-clause-turns g c = λ w is.
    let s = session_of c.args.state.now in
    same_turn g.F.Source.tells (λ (x : Turn). Turns c.change.result x (session_of c.change.new.state)) _ _
    (sym (edit_change w c.args.base.now.number s c.args.edit.now c.in_default.not-Try c.in_default.not-Undo))
    (c.change.ensures.turns w is)

pub returns-in_default-clause-steps : goal.returns-in_default-clause-steps
returns-in_default-clause-steps g c = λ w is t.
    let s = session_of c.args.state.now in
    let e = in_chars (edit_seen c.args.edit.now) in
    subst (λ (x : Turn). StepsBy c.change.result x c.args.steps.now c.args.steps.now)
    (sym (edit_change w c.args.base.now.number s c.args.edit.now c.in_default.not-Try c.in_default.not-Undo))
    (steps_none c.change.result (change_turn w c.args.base.now.number s e (changed e s)) c.args.steps.now
    (change_cost w c.args.base.now.number s e (changed e s)))

pub returns-in_ok-wrong-in-None-clause-asked : goal.returns-in_ok-wrong-in-None-clause-asked
returns-in_ok-wrong-in-None-clause-asked g c = λ w is.
    let s = session_of c.args.state.now in
    rw c.in-Try.is (λ t.
    loads_none _ _ _ (ap (λ (o : Option (List ℕ)). (try_turn w c.args.base.now.number s o c.in-Try.line.now).asked)
    (sym c.in-None.ensures)) refl)

pub returns-in_err-wrong-in-None-clause-asked : goal.returns-in_err-wrong-in-None-clause-asked
returns-in_err-wrong-in-None-clause-asked g c = λ w is t.
    none_asks _ _ _ c.from_residual.result c.from_residual.ensures.1 refl

pub returns-in-Some-clause-asked : goal.returns-in-Some-clause-asked
returns-in-Some-clause-asked g c = λ w is.
    let s = session_of c.args.state.now in
    let turn : Option (List ℕ) → Turn = λ o. try_turn w c.args.base.now.number s o c.in-Try.line.now in
    rw c.in-Try.is
    (same_turn g.F.Source.tells (λ (x : Turn). Asks c.try_with.result x.asked (g.F.Source.asked c.args.files.now)
    (g.F.Source.asked c.try_with.new.files)) _ _ (ap turn c.in-Some.ensures)
    (c.try_with.ensures.asked w is))

pub returns-in_ok-undo-in-Undo-clause-asked : goal.returns-in_ok-undo-in-Undo-clause-asked
returns-in_ok-undo-in-Undo-clause-asked g c = λ w is.
    let s = session_of c.args.state.now in
    rw c.in-Undo.is (λ t. loads_none _ _ _ (undo_asks c.args.base.now.number s (undone s)) refl)

pub returns-in_err-undo-in-Undo-clause-asked : goal.returns-in_err-undo-in-Undo-clause-asked
returns-in_err-undo-in-Undo-clause-asked g c = λ w is t.
    none_asks _ _ _ c.from_residual-in_err-undo-in-Undo.result c.from_residual-in_err-undo-in-Undo.ensures.1 refl

pub returns-in_default-clause-asked : goal.returns-in_default-clause-asked
returns-in_default-clause-asked g c = λ w is.
    let s = session_of c.args.state.now in
    same_turn g.F.Source.tells (λ (x : Turn). Asks c.change.result x.asked (g.F.Source.asked c.args.files.now)
    (g.F.Source.asked c.change.new.files)) _ _
    (sym (edit_change w c.args.base.now.number s c.args.edit.now c.in_default.not-Try c.in_default.not-Undo))
    (c.change.ensures.asked w is)

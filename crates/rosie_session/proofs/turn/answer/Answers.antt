use Rattle.std.proofs.Common.{◌≡◌, ◌+◌, ◌∙◌, refl, ap, subst, sym, arith}
use Rattle.std.specs.Prelude.{Option, Some}
use Rattle.rosie_repl.specs.Edits.{Edit}
use Rattle.rosie_repl.specs.States.{session_of}
use Rattle.rosie_session.specs.Replay.{Turn, edit_turn}
use Rattle.rosie_session.specs.inside.Turning.{Asks, Says, StepsBy, Turns}
use Rattle.rosie_session.proofs.Told.{same_turn}
use Rattle.rosie_session.proofs.Turns.{loads_none, none_asks, tried_short}
use Rattle.rosie_session.proofs.turn.answer.Goals as goal

pub obey-requires : goal.obey-requires
obey-requires g c = λ line e.
    let some : Edit → Option Edit = λ x. Some x in
    let s = tried_short c.args.line.now line (sym c.in-Some.ensures ∙ ap some e) in
    omega arith

pub returns-in_ok-wrong-in-None-clause-turns : goal.returns-in_ok-wrong-in-None-clause-turns
returns-in_ok-wrong-in-None-clause-turns g c = λ w is t.
    let s = session_of c.args.state.now in
    subst (λ (o : Option Edit). Says c.in_ok-wrong-in-None.field-0 (edit_turn w c.args.base.now.number s o) s)
    c.in-None.ensures
    (c.in_ok-wrong-in-None.ensures, refl)

pub returns-in_ok-wrong-in-None-clause-steps : goal.returns-in_ok-wrong-in-None-clause-steps
returns-in_ok-wrong-in-None-clause-steps g c = λ w is t.
    let s = session_of c.args.state.now in
    subst (λ (o : Option Edit). c.args.steps.now
    ≡ c.args.steps.now + (edit_turn w c.args.base.now.number s o).piece.cost)
    c.in-None.ensures (omega arith)

pub returns-in-Some-clause-turns : goal.returns-in-Some-clause-turns
returns-in-Some-clause-turns g c = λ w is.
    let s = session_of c.args.state.now in
    same_turn g.F.Source.tells (λ (x : Turn). Turns c.obey.result x (session_of c.obey.new.state)) _ _
    (ap (edit_turn w c.args.base.now.number s) c.in-Some.ensures) (c.obey.ensures.turns w is)

pub returns-in-Some-clause-steps : goal.returns-in-Some-clause-steps
returns-in-Some-clause-steps g c = λ w is.
    let s = session_of c.args.state.now in
    same_turn g.F.Source.tells (λ (x : Turn). StepsBy c.obey.result x c.args.steps.now c.obey.new.steps) _ _
    (ap (edit_turn w c.args.base.now.number s) c.in-Some.ensures) (c.obey.ensures.steps w is)

pub returns-in_ok-wrong-in-None-clause-asked : goal.returns-in_ok-wrong-in-None-clause-asked
returns-in_ok-wrong-in-None-clause-asked g c = λ w is t.
    let s = session_of c.args.state.now in
    loads_none _ _ _ (ap (λ (o : Option Edit). (edit_turn w c.args.base.now.number s o).asked) (sym c.in-None.ensures))
    refl

pub returns-in_err-wrong-in-None-clause-asked : goal.returns-in_err-wrong-in-None-clause-asked
returns-in_err-wrong-in-None-clause-asked g c = λ w is t.
    none_asks _ _ _ c.from_residual.result c.from_residual.ensures.1 refl

pub returns-in-Some-clause-asked : goal.returns-in-Some-clause-asked
returns-in-Some-clause-asked g c = λ w is.
    let s = session_of c.args.state.now in
    same_turn g.F.Source.tells (λ (x : Turn). Asks c.obey.result x.asked (g.F.Source.asked c.args.files.now)
    (g.F.Source.asked c.obey.new.files)) _ _
    (ap (edit_turn w c.args.base.now.number s) c.in-Some.ensures) (c.obey.ensures.asked w is)

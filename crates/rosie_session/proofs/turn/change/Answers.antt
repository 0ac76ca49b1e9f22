use Rattle.std.proofs.Common.{◌≡◌, true, false, refl, sym}
use Rattle.rosie_repl.specs.Edits.{in_chars}
use Rattle.rosie_repl.specs.Seen.{edit_seen}
use Rattle.rosie_repl.specs.Session.{changed}
use Rattle.rosie_repl.specs.States.{session_of}
use Rattle.rosie_session.specs.Replay.{Turn}
use Rattle.rosie_session.specs.inside.Turning.{Asks, Turns}
use Rattle.rosie_session.proofs.Told.{same_turn}
use Rattle.rosie_session.proofs.Turns.{change_asks, change_none, change_some, loads_none, made_some, none_asks}
use Rattle.rosie_session.proofs.turn.change.Goals as goal

pub returns-then-branch-clause-turns : goal.returns-then-branch-clause-turns
returns-then-branch-clause-turns g c = λ w is.
    let s = session_of c.args.state.now in
    let mid = session_of c.change.new.self in
    let e = in_chars (edit_seen c.args.edit.now) in
    let done : c.in_ok-change.field-0 ≡ true = cc in
    same_turn g.F.Source.tells (λ (x : Turn). Turns c.judge.result x (session_of c.judge.new.state)) _ _
    (sym (change_some w c.args.base.now.number s mid e (changed e s) c.in_ok-change.field-0 c.in_ok-change.ensures
    done))
    (c.judge.ensures.turns s (made_some s mid (changed e s) c.in_ok-change.field-0 c.in_ok-change.ensures done) w is)

pub returns-clause-turns : goal.returns-clause-turns
returns-clause-turns g c = λ w is t.
    let s = session_of c.args.state.now in
    let e = in_chars (edit_seen c.args.edit.now) in
    let off : c.in_ok-change.field-0 ≡ false = cc in
    change_none w c.args.base.now.number s (session_of c.change.new.self) e (changed e s) c.in_ok-change.field-0
    c.in_ok-wrong.field-0 c.in_ok-change.ensures off c.in_ok-wrong.ensures

pub returns-then-branch-clause-asked : goal.returns-then-branch-clause-asked
returns-then-branch-clause-asked g c = λ w is.
    let s = session_of c.args.state.now in
    let mid = session_of c.change.new.self in
    let e = in_chars (edit_seen c.args.edit.now) in
    let done : c.in_ok-change.field-0 ≡ true = cc in
    same_turn g.F.Source.tells (λ (x : Turn). Asks c.judge.result x.asked (g.F.Source.asked c.args.files.now)
    (g.F.Source.asked c.judge.new.files)) _ _
    (sym (change_some w c.args.base.now.number s mid e (changed e s) c.in_ok-change.field-0 c.in_ok-change.ensures
    done))
    (c.judge.ensures.asked s (made_some s mid (changed e s) c.in_ok-change.field-0 c.in_ok-change.ensures done) w is)

pub returns-clause-asked : goal.returns-clause-asked
returns-clause-asked g c = λ w is t.
    let s = session_of c.args.state.now in
    let e = in_chars (edit_seen c.args.edit.now) in
    let off : c.in_ok-change.field-0 ≡ false = cc in
    loads_none _ _ _ (change_asks w c.args.base.now.number s (session_of c.change.new.self) e (changed e s)
    c.in_ok-change.field-0 c.in_ok-change.ensures off) refl

pub returns-in_err-change-clause-asked : goal.returns-in_err-change-clause-asked
returns-in_err-change-clause-asked g c = λ w is t. none_asks _ _ _ c.from_residual.result c.from_residual.ensures.1 refl

pub returns-in_err-wrong-clause-asked : goal.returns-in_err-wrong-clause-asked
returns-in_err-wrong-clause-asked g c = λ w is t.
    none_asks _ _ _ c.from_residual-in_err-wrong.result c.from_residual-in_err-wrong.ensures.1 refl

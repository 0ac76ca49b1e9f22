use Rattle.std.proofs.Common.{◌≡◌, true, false}
use Rattle.rosie_repl.specs.Session.{undone}
use Rattle.rosie_repl.specs.States.{session_of}
use Rattle.rosie_session.proofs.Turns.{undo_none, undo_some}
use Rattle.rosie_session.proofs.turn.undo.Goals as goal

pub returns-then-undo : goal.returns-then-undo
returns-then-undo c =
    let s = session_of c.args.state.now in
    let done : c.undo.result ≡ true = cc in
    undo_some c.args.number s (session_of c.undo.new.self) (undone s) c.undo.result c.accepted.result c.undo.ensures
    done
    c.accepted.ensures

pub returns : goal.returns
returns c =
    let s = session_of c.args.state.now in
    let off : c.undo.result ≡ false = cc in
    undo_none c.args.number s (session_of c.undo.new.self) (undone s) c.undo.result c.wrong.result c.undo.ensures off
    c.wrong.ensures

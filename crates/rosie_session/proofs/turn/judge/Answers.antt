use Rattle.std.proofs.Common.{◌∙◌, subst, sym}
use Rattle.rosie_repl.specs.Edits.{in_chars}
use Rattle.rosie_repl.specs.Seen.{edit_seen}
use Rattle.rosie_repl.specs.States.{session_of}
use Rattle.rosie_run.specs.Report.{Piece}
use Rattle.rosie_session.specs.inside.Turning.{IsReply}
use Rattle.rosie_session.proofs.Turns.{all_asked, back_made, memory_asks, memory_front, memory_leaves, refused_asks}
use Rattle.rosie_session.proofs.Turns.{unread_front}
use Rattle.rosie_session.proofs.turn.judge.Goals as goal

pub returns-in_ok-accepted-in-Ok-clause-turns : goal.returns-in_ok-accepted-in-Ok-clause-turns
returns-in_ok-accepted-in-Ok-clause-turns g c = λ before made w is t.
    let j = c.in-Ok.ensures.judges before w is t in
    let reply = c.in_ok-accepted-in-Ok.field-0 in
    (subst (λ (p : Piece). IsReply reply p) (sym j.0) c.in_ok-accepted-in-Ok.ensures, sym j.1)

pub returns-in-Refused-clause-turns : goal.returns-in-Refused-clause-turns
returns-in-Refused-clause-turns g c = λ before made w is t.
    let j = rw c.in-Refused.is at (c.in-Err.ensures.judges before w is t) in
    let back = back_made before (session_of c.args.state.now) (session_of c.undo.new.self)
    (in_chars (edit_seen c.args.edit.now)) c.undo.result made c.undo.ensures in
    (subst (λ (p : Piece). IsReply c.refused.result p) (sym j.0) c.refused.ensures, back ∙ sym j.1)

pub returns-in_err-accepted-in-Ok-clause-leaves : goal.returns-in_err-accepted-in-Ok-clause-leaves
returns-in_err-accepted-in-Ok-clause-leaves g c =
    let e = c.in-Ok.ensures in
    memory_leaves g.F.Source c.from_residual.result _ _ e.taken e.tree e.cause c.from_residual.ensures.1

pub returns-in_ok-accepted-in-Ok-clause-asked : goal.returns-in_ok-accepted-in-Ok-clause-asked
returns-in_ok-accepted-in-Ok-clause-asked g c = λ before made w is t.
    all_asked (tt {0}) _ _ _ (c.in-Ok.ensures.asked before w is t)

pub returns-in_err-accepted-in-Ok-clause-asked : goal.returns-in_err-accepted-in-Ok-clause-asked
returns-in_err-accepted-in-Ok-clause-asked g c = λ before made w is t.
    memory_asks _ _ _ c.from_residual.result c.from_residual.ensures.1
    (all_asked (tt {0}) _ _ _ (c.in-Ok.ensures.asked before w is t))

pub returns-in-NoMemory-clause-asked : goal.returns-in-NoMemory-clause-asked
returns-in-NoMemory-clause-asked g c = λ before made w is t.
    memory_front _ _ _ c.in-Err.unready c.in-NoMemory.is (c.in-Err.ensures.asked before w is t)

pub returns-in-Refused-clause-asked : goal.returns-in-Refused-clause-asked
returns-in-Refused-clause-asked g c = λ before made w is t.
    refused_asks _ _ _ c.in-Err.unready _ c.in-Refused.is (c.in-Err.ensures.asked before w is t)

pub returns-in-ReadFault-clause-asked : goal.returns-in-ReadFault-clause-asked
returns-in-ReadFault-clause-asked g c = λ before made w is t.
    unread_front _ _ _ c.in-Err.unready _ c.in-ReadFault.is (c.in-Err.ensures.asked before w is t)

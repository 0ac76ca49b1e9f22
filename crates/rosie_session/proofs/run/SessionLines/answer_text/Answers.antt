use Rattle.std.proofs.Common.{ap}
use Rattle.rosie_session.specs.declared.run.SessionMemory.{SessionMemory}
use Rattle.rosie_session.proofs.Passing.{memory_end, unread_end}
use Rattle.rosie_session.proofs.run.SessionLines.answer_text.Goals as goal

pub returns-in-NoMemory-clause-asked : goal.returns-in-NoMemory-clause-asked
returns-in-NoMemory-clause-asked g c = λ w is t.
    memory_end _ _ _ c.in-Err.session_end c.in-NoMemory.is
    ((rw (c.number.ensures, c.line.ensures) at c.in-Err.ensures.asked) w is t)

pub returns-in-Unread-clause-asked : goal.returns-in-Unread-clause-asked
returns-in-Unread-clause-asked g c = λ w is t.
    unread_end _ _ _ c.in-Err.session_end c.in-Unread.path c.end_at.result _ c.in-Unread.is
    (ap (λ (k : SessionMemory). k.unread) c.end_at.ensures.kept) c.end_at.ensures.stops
    ((rw (c.number.ensures, c.line.ensures) at c.in-Err.ensures.asked) w is t)

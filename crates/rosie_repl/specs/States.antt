-- A state as a session.
use Rattle.rosie_repl.specs.Session.{KeptTexts, Session}
use Rattle.rosie_repl.specs.inside.Kept.{session_by}
use Rattle.rosie_repl.specs.declared.state.State.{State}

abbrev pub kept_of : State → KeptTexts
kept_of s = record { texts = s.texts.items; pattern = s.pattern }

abbrev pub session_of : State → Session
session_of s = session_by (kept_of s) s.past.items

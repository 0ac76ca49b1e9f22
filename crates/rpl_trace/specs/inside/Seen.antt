-- How contracts see what happened over bytes: each place as the number of the character that begins there.
use Rattle.std.specs.Prelude.{ℕ, List, [], ◌∷◌}
use Rattle.rpl_text.specs.Places.{index, IsPlace}
use Rattle.rpl_trace.specs.Evaluations as S
use Rattle.rpl_trace.specs.declared.event.End.{End}
use Rattle.rpl_trace.specs.declared.event.End.TheVariants as E
use Rattle.rpl_trace.specs.declared.event.Event.{Event}
use Rattle.rpl_trace.specs.declared.event.Event.TheVariants as V

abbrev pub end_seen : List ℕ → End → S.Ending
end_seen t E.Fails = S.Fails
end_seen t (E.At p) = S.EndsAt (index t p)
end_seen t (E.Halts p) = S.HaltsAt (index t p)

-- where it ends is a place of the text
abbrev pub EndStands : List ℕ → End → Type 0
EndStands t E.Fails = Unit {0}
EndStands t (E.At p) = IsPlace t p
EndStands t (E.Halts p) = IsPlace t p

-- each place in it is one of the text
abbrev pub EventStands : List ℕ → Event → Type 0
EventStands t (V.Begins k p) = IsPlace t p
EventStands t (V.Ends e) = EndStands t e
EventStands t V.Vanishes = Unit {0}

abbrev pub EventsStand : List ℕ → List Event → Type 0
EventsStand t [] = Unit {0}
EventsStand t (x ∷ xs) = EventStands t x × EventsStand t xs

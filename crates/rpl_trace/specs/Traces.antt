-- Where a trace says that a match ends.
use Rattle.std.specs.Prelude.{ℕ, List, Option, Some, None}
use Rattle.rpl_core.specs.Meaning.{Outcome, Open, Fail, At, HaltAt}
use Rattle.rpl_text.specs.Places.{at}
use Rattle.rpl_trace.specs.Evaluations.{Ending, Unsaid, Fails, EndsAt, HaltsAt}

-- the place in bytes after a match
abbrev pub place_behind : List ℕ → Outcome → Option ℕ
place_behind t Open = None
place_behind t (Fail w) = None
place_behind t (At w j f) = Some (at t j)
place_behind t (HaltAt w j f) = Some (at t j)

-- the place in bytes that an ending tells
abbrev pub ending_place : List ℕ → Ending → Option ℕ
ending_place t Unsaid = None
ending_place t Fails = None
ending_place t (EndsAt j) = Some (at t j)
ending_place t (HaltsAt j) = Some (at t j)

-- How contracts see captures with numbers of texts.
use Rattle.std.specs.Prelude.{ℕ, List, map}
use Rattle.rpl_core.specs.Forest as F
use Rattle.rpl_core.specs.declared.caught.Caught.{Caught}
use Rattle.rpl_core.specs.declared.caught.Caught.TheVariants.{Begin, Finish, Note}

-- the capture with the text that its number names
abbrev pub named : (ℕ → List ℕ) → Caught → F.Caught
named name (Begin label place) = F.Begin (name label) place
named name (Finish place) = F.Finish place
named name (Note text place) = F.Mark (name text) place

abbrev pub all_named : (ℕ → List ℕ) → List Caught → List F.Caught
all_named name = map (named name)

-- the capture with the place that this one stands for
abbrev pub moved : (ℕ → ℕ) → F.Caught → F.Caught
moved place_of (F.Begin label place) = F.Begin label (place_of place)
moved place_of (F.Finish place) = F.Finish (place_of place)
moved place_of (F.Mark text place) = F.Mark text (place_of place)

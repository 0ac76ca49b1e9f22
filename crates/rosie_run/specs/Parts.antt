-- A text that is written in parts.
use Rattle.rosie_run.specs.Report.{Piece, text_piece}
use Rattle.std.specs.Prelude.{◌++◌, ◌<◌, ◌≡◌, ◌∷◌, Bool, Err, List, Ok, Result, [], drop, false, length, take, true, ℕ}

-- the next bit of a text was appended, or nothing is left of it
abbrev pub Pushes : {E : Type 0} → Result Bool E → (left0 left1 out0 out1 : List ℕ) → Type 0
Pushes (Ok true) left0 left1 out0 out1 = (out0 ++ left0 ≡ out1 ++ left1) × (length out0 < length out1)
Pushes (Ok false) left0 left1 out0 out1 = (left0 ≡ []) × (left1 ≡ []) × (out1 ≡ out0)
Pushes (Err e) left0 left1 out0 out1 = Unit {0}

-- a text of which this part is made, and this is still to come: the one after the other
abbrev pub whole_of : (part rest : List ℕ) → List ℕ
whole_of part [] = part
whole_of part (byte ∷ more) = part ++ byte ∷ more

-- the next part of a text was made, and some of the text with it, or all parts were made before
abbrev pub GivesPart : {E : Type 0} → Result Bool E → (rest0 part1 rest1 : List ℕ) → Type 0
GivesPart (Ok true) rest0 part1 rest1 = (rest0 ≡ part1 ++ rest1) × (0 < length part1)
GivesPart (Ok false) rest0 part1 rest1 = rest0 ≡ []
GivesPart (Err e) rest0 part1 rest1 = Unit {0}

-- the most bytes of a part
abbrev pub part_bytes : ℕ
part_bytes = 65536

-- each part of a text but the last one has that many bytes, and none is empty
abbrev pub IsParted : List ℕ → List Piece → Type 0
IsParted text [] = text ≡ []
IsParted text (p ∷ ps) =
    (0 < length text) × (p ≡ text_piece (take part_bytes text)) × IsParted (drop part_bytes text) ps

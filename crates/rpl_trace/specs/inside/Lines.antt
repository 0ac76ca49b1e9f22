-- The lines of a trace, and how what happened is read as lines from its end.
use Rattle.std.specs.Prelude.{◌≡◌, ℕ, ◌+◌, List, [], ◌∷◌, ◌++◌, Option, Some, None, map, reverse}
use Rattle.std.specs.Option.{option_map}
use Rattle.rpl_text.specs.Places.{index, IsPlace}
use Rattle.rpl_trace.specs.Evaluations.{Kind, Ending, Evaluations, NoneLeft, One}
use Rattle.rpl_trace.specs.Printed.{line_text}
use Rattle.rpl_trace.specs.Kinds.{kind_seen}
use Rattle.rpl_trace.specs.inside.Seen.{end_seen, EndStands}
use Rattle.rpl_trace.specs.inside.Standing.{Standing, Whole, Inside, Broken, after}
use Rattle.rpl_trace.specs.declared.event.Event.{Event}
use Rattle.rpl_trace.specs.declared.event.End.{End}
use Rattle.rpl_trace.specs.declared.lines.Line.{Line}
use Rattle.rpl_trace.specs.declared.lines.Backwards.{Backwards}

-- one line, with places as numbers of characters
pub record Row : Type 0 where
  pub depth : ℕ
  pub kind : Kind
  pub start : ℕ
  pub ending : Ending

-- the lines of evaluations side by side at the depth d
abbrev pub rows : ℕ → Evaluations → List Row
rows d NoneLeft = []
rows d (One k i e f r) = record { depth = d; kind = k; start = i; ending = e } ∷ (rows (d + 1) f ++ rows d r)

abbrev pub row_text : List (List ℕ) → List ℕ → Row → List ℕ
row_text names t x = line_text names t x.depth x.kind x.start x.ending

abbrev pub rows_text : List (List ℕ) → List ℕ → List Row → List ℕ
rows_text names t [] = []
rows_text names t (x ∷ xs) = row_text names t x ++ rows_text names t xs

-- How the evaluations under way end, the innermost first; one that is none has no ending, and no depth.
abbrev pub depth_in : List (Option Ending) → ℕ
depth_in [] = 0
depth_in (None ∷ es) = depth_in es
depth_in (Some e ∷ es) = depth_in es + 1

-- there is an end for each that is under way
abbrev pub Fits : Standing → List (Option Ending) → Type 0
Fits (Whole f) [] = Unit {0}
Fits (Whole f) (e ∷ es) = ⊥
Fits (Inside s k i f) [] = ⊥
Fits (Inside s k i f) (e ∷ es) = Fits s es
Fits Broken es = ⊥

-- the lines of what stands, where those under way end so
abbrev pub rows_of : Standing → List (Option Ending) → List Row
rows_of (Whole f) es = rows 0 f
rows_of (Inside s k i f) [] = []
rows_of (Inside s k i f) (None ∷ es) = rows_of s es ++ rows (depth_in es) f
rows_of (Inside s k i f) (Some e ∷ es) =
    rows_of s es ++ record { depth = depth_in es; kind = k; start = i; ending = e } ∷ rows (depth_in es + 1) f
rows_of Broken es = []

abbrev pub row_seen : List ℕ → Line → Row
row_seen t x =
    record { depth = x.depth; kind = kind_seen x.kind; start = index t x.start; ending = end_seen t x.end }

abbrev pub LineStands : List ℕ → Line → Type 0
LineStands t x = IsPlace t x.start × EndStands t x.end

abbrev pub LinesStand : List ℕ → List Line → Type 0
LinesStand t [] = Unit {0}
LinesStand t (x ∷ xs) = LineStands t x × LinesStand t xs

abbrev pub EndsStand : List ℕ → List (Option End) → Type 0
EndsStand t [] = Unit {0}
EndsStand t (None ∷ es) = EndsStand t es
EndsStand t (Some e ∷ es) = EndStands t e × EndsStand t es

-- what has been read: the ends, the innermost first, and the lines from there to the end
abbrev pub ends_in : List ℕ → Backwards → List (Option Ending)
ends_in t b = map (option_map (end_seen t)) (reverse b.ends.items)

abbrev pub rows_in : List ℕ → Backwards → List Row
rows_in t b = map (row_seen t) (reverse b.lines.items)

-- its depth is that of its ends, and its places are places of the text
pub record IsRead (t : List ℕ) (b : Backwards) : Type 0 where
  pub depth : b.depth ≡ depth_in (ends_in t b)
  pub ends : EndsStand t (reverse b.ends.items)
  pub lines : LinesStand t (reverse b.lines.items)

-- The event before them was read, where s stood before it.
pub record Reads (t : List ℕ) (s : Standing) (x : Event) (old new : Backwards) : Type 0 where
  pub fits : Fits s (ends_in t new)
  pub rows : rows_of s (ends_in t new) ++ rows_in t new ≡ rows_of (after t x s) (ends_in t old) ++ rows_in t old
  pub read : IsRead t new

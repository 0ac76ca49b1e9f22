-- What a pattern is when its names are gone: a parsing expression (Ford 2004, sections 3.1 and 3.2) with
-- captures, notes, look-behind and halt.
use Rattle.std.specs.Prelude.{ℕ, Bool, false, List, Option, Some, None}
use Rattle.regex_class.specs.Ranges.{Range, in_ranges}

-- there is a character, and it is in the set
abbrev pub fits : Option ℕ → List Range → Bool
fits None s = false
fits (Some c) s = in_ranges s c

-- A set takes one character of its ranges. A sequence is all its parts in turn, a choice the first of two or more
-- parts that succeeds. `Many` goes on as long as its body succeeds. `Not` and `And` try their body and take
-- nothing; `Behind` tries it from `least` to `most` characters back. A call is the body of the rule with this
-- number; a capture makes one tree of its body's trees, a note a tree of its text. `Start` and `End` hold at the
-- ends of the text. `Halt` ends the whole match where it stands.
mutual
  pub data Core : Type 0 where
    Set : (s : List Range) → Core
    Seq : (ps : Cores) → Core
    Choice : (ps : Cores) → Core
    Many : (p : Core) → Core
    Not : (p : Core) → Core
    And : (p : Core) → Core
    Behind : (least most : ℕ) (p : Core) → Core
    Call : (rule : ℕ) → Core
    Capture : (label : List ℕ) (p : Core) → Core
    Note : (text : List ℕ) → Core
    Start : Core
    End : Core
    Halt : Core

  -- parts in their order
  pub data Cores : Type 0 where
    NoMore : Cores
    Then : (p : Core) (rest : Cores) → Cores

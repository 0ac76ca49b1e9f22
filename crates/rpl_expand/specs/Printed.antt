-- The printed text of a core, in bytes.
use Rattle.std.specs.Prelude.{ℕ, List, [], ◌∷◌, ◌++◌, Option, slice_get, codes, decimal, encode_utf8_all}
use Rattle.std.specs.Option.{option_map_or}
use Rattle.rpl_core.specs.Core.{Core, Set, Seq, Choice, Many, Not, And, Behind, Call, Capture, Note, Start, End, Halt}
use Rattle.rpl_core.specs.Core.{Cores, NoMore, Then}
use Rattle.rpl_print.specs.Quoted.{quoted}
use Rattle.rpl_print.specs.Sets.{set_text}

-- what stands in round brackets after its head
abbrev pub in_brackets : List ℕ → List ℕ → List ℕ
in_brackets head rest = head ++ rest ++ 41 ∷ []

-- a name, if there is one
abbrev pub text_if : Option (List ℕ) → List ℕ
text_if name = option_map_or encode_utf8_all name []

-- the text of a core over rules with these names
abbrev mutual
  pub printed : List (List ℕ) → Core → List ℕ
  printed names (Set s) = in_brackets (codes "(set ") (set_text s)
  printed names (Seq ps) = in_brackets (codes "(seq") (printed_all names ps)
  printed names (Choice ps) = in_brackets (codes "(choice") (printed_all names ps)
  printed names (Many p) = in_brackets (codes "(many ") (printed names p)
  printed names (Not p) = in_brackets (codes "(not ") (printed names p)
  printed names (And p) = in_brackets (codes "(and ") (printed names p)
  printed names (Behind l m p) = in_brackets (codes "(behind ") (decimal l ++ 32 ∷ decimal m ++ 32 ∷ printed names p)
  printed names (Call r) = in_brackets (codes "(call ") (text_if (slice_get names r))
  printed names (Capture c p) = in_brackets (codes "(capture ") (encode_utf8_all c ++ 32 ∷ printed names p)
  printed names (Note x) = in_brackets (codes "(note ") (quoted (encode_utf8_all x))
  printed names Start = codes "start"
  printed names End = codes "end"
  printed names Halt = codes "halt"

  -- the parts, with a space before each
  pub printed_all : List (List ℕ) → Cores → List ℕ
  printed_all names NoMore = []
  printed_all names (Then p ps) = 32 ∷ printed names p ++ printed_all names ps

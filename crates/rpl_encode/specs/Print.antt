-- The text of an outcome: what is printed for a line of characters.
use Rattle.std.specs.Prelude.{ℕ, List, Option, None, Some, option_map}
use Rattle.std.specs.Str.{encode_utf8_all}
use Rattle.rpl_core.specs.Forest.{Forest, NoTree, Tree, Noted}
use Rattle.rpl_core.specs.Meaning.{Outcome, At, HaltAt}
use Rattle.rpl_text.specs.Places.{at}
use Rattle.rpl_encode.specs.Answer.{answer}
use Rattle.rpl_encode.specs.declared.style.Style.{Style}

-- the trees with each place moved
abbrev pub placed : (ℕ → ℕ) → Forest → Forest
placed place_of NoTree = NoTree
placed place_of (Tree label start end below behind) =
    Tree label (place_of start) (place_of end) (placed place_of below) (placed place_of behind)
placed place_of (Noted text place behind) = Noted text (place_of place) (placed place_of behind)

-- the trees of a match, if there is one
abbrev pub found : Outcome → Option Forest
found (At w j f) = Some f
found (HaltAt w j f) = Some f
found _ = None

-- places of the outcome count characters, and those of the text count bytes
abbrev pub in_bytes : List ℕ → Option Forest → Option Forest
in_bytes t = option_map (placed (at t))

abbrev pub print : Style → List ℕ → Outcome → List ℕ
print style t outcome = answer style (encode_utf8_all t) (in_bytes t (found outcome))

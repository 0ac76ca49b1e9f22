-- How many brackets are open at once in a bracket; a backslash hides the byte after it.
use Rattle.std.specs.Prelude.{ℕ, Bool, false, List, [], ◌∷◌, max}
use Rattle.rpl_lexer.specs.declared.enclosed.Enclosure.TheVariants.{Brackets}
use Rattle.rpl_lexer.specs.Enclosed.{hides, depth_after}

-- at most so many were open, n are
abbrev pub most_open : (most n : ℕ) → (hidden : Bool) → List ℕ → ℕ
most_open most n hidden [] = most
most_open most n hidden (b ∷ bs) =
    let d = depth_after Brackets n hidden b in
    most_open (max most d) d (hides hidden b) bs

abbrev pub nesting : List ℕ → ℕ
nesting w = most_open 0 0 false w

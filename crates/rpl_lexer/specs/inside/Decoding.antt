-- One step of the reading of a text.
use Rattle.std.specs.Prelude.{◌≡◌, ◌<◌, ℕ, List, [], ◌∷◌, Option, Some, None, drop}
use Rattle.rpl_text.specs.Places.{index, IsPlace}
use Rattle.rpl_lexer.specs.Payloads.{decoded}

-- from the byte place p on a character is read, and what is after it stands at the place q; or the text is done
abbrev pub Decodes : List ℕ → ℕ → Option (ℕ × ℕ) → Type 0
Decodes t p None = decoded 0 (drop (index t p) t) ≡ []
Decodes t p (Some (c, q)) =
    (decoded 0 (drop (index t p) t) ≡ c ∷ decoded 0 (drop (index t q) t)) × IsPlace t q × (p < q)

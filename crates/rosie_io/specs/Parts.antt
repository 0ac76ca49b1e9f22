-- Lines, defined without saying how they are cut: they are the parts between line feeds.
use Rattle.std.specs.Prelude.{ℕ, ◌≡◌, ◌==◌, if◌then◌else◌, List, [], ◌∷◌, ◌++◌, sum_by}
use Rattle.rosie_io.specs.Lines.{feeds}

-- the lines, each with a line feed after it
unfoldable pub joined : List (List ℕ) → List ℕ
joined [] = []
joined (line ∷ more) = line ++ (10 ∷ joined more)

-- the bytes, with a line feed after the last line if it has none
unfoldable pub fed : List ℕ → List ℕ
fed [] = []
fed (b ∷ []) = if b == 10 then 10 ∷ [] else b ∷ 10 ∷ []
fed (b ∷ c ∷ bs) = b ∷ fed (c ∷ bs)

-- the parts of the bytes between their line feeds: none contains a line feed, and joined they are the bytes
pub record AreLines (bytes : List ℕ) (parts : List (List ℕ)) : Type 0 where
  pub apart : sum_by feeds parts ≡ 0
  pub whole : joined parts ≡ fed bytes

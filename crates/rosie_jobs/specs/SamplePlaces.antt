-- The position of a sample.
use Rattle.std.specs.Prelude.{ℕ, List}

-- the number that its line is made of, and the line
pub record Place : Type 0 where
  pub number : ℕ
  pub line : List ℕ

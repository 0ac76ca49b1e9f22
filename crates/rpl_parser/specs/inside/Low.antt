-- A level that hasn't passed 100.
use Rattle.std.specs.Prelude.{ℕ, ◌≤◌, List, [], ◌∷◌}
use Rattle.rpl_parser.specs.Levels.{Level}

-- no number is above 100
abbrev pub All_low : List ℕ → Type 0
All_low [] = Unit {0}
All_low (b ∷ bs) = (b ≤ 100) × All_low bs

pub record Low (l : Level) : Type 0 where
  pub base : l.base ≤ 100
  pub level : l.level ≤ 100
  pub bases : All_low l.bases

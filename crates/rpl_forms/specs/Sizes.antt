-- How many cores a core is made of, and how deep they stand inside one another.
use Rattle.std.specs.Prelude.{ℕ, ◌+◌, max}
use Rattle.rpl_core.specs.Core.{Core, Seq, Choice, Many, Not, And, Behind, Capture}
use Rattle.rpl_core.specs.Core.{Cores, NoMore, Then}

-- how many cores stand in it, itself too
abbrev mutual
  pub nodes : Core → ℕ
  nodes (Seq ps) = 1 + all_nodes ps
  nodes (Choice ps) = 1 + all_nodes ps
  nodes (Many p) = 1 + nodes p
  nodes (Not p) = 1 + nodes p
  nodes (And p) = 1 + nodes p
  nodes (Behind l m p) = 1 + nodes p
  nodes (Capture c p) = 1 + nodes p
  nodes _ = 1

  pub all_nodes : Cores → ℕ
  all_nodes NoMore = 0
  all_nodes (Then p ps) = nodes p + all_nodes ps

-- how many cores stand inside one another
abbrev mutual
  pub deep : Core → ℕ
  deep (Seq ps) = 1 + most_deep ps
  deep (Choice ps) = 1 + most_deep ps
  deep (Many p) = 1 + deep p
  deep (Not p) = 1 + deep p
  deep (And p) = 1 + deep p
  deep (Behind l m p) = 1 + deep p
  deep (Capture c p) = 1 + deep p
  deep _ = 1

  pub most_deep : Cores → ℕ
  most_deep NoMore = 0
  most_deep (Then p ps) = max (deep p) (most_deep ps)

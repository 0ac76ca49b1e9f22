-- The meaning at a depth, as one level over the depth below.
use Rattle.std.specs.Prelude.{ℕ, zero, suc, List}
use Rattle.rpl_core.specs.Core.{Core, Cores}
use Rattle.rpl_core.specs.Meaning.{Outcome, no_depth, peg, level, level_all, level_first}

-- the meaning that the depth n stands on
abbrev pub below : ℕ → List Core → List ℕ → Core → ℕ → Outcome
below zero R t = no_depth
below (suc n) R t = peg n R t

-- a core at the depth n
abbrev pub core_at : ℕ → List Core → List ℕ → Core → ℕ → Outcome
core_at n R t = level (below n R t) R t

-- all parts at the depth n
abbrev pub all_at : ℕ → List Core → List ℕ → Cores → ℕ → Outcome
all_at n R t = level_all (below n R t) R t

-- the first part that succeeds, at the depth n
abbrev pub first_at : ℕ → List Core → List ℕ → Cores → ℕ → Outcome
first_at n R t = level_first (below n R t) R t

-- The outcomes and the evaluations at a depth, as one level over the depth below.
use Rattle.std.specs.Prelude.{◌≡◌, ℕ, zero, suc, List, Bool, true, false}
use Rattle.rpl_core.specs.Core.{Core, Cores, Choice, NoMore, Then}
use Rattle.rpl_core.specs.Meaning.{Outcome, no_depth, peg, level, level_all, level_first}
use Rattle.rpl_trace.specs.Evaluations.{Evaluations, none_made, evaluations, made, made_all, made_first}

-- what the depth n stands on
abbrev pub below : ℕ → List Core → List ℕ → Core → ℕ → Outcome
below zero R t = no_depth
below (suc n) R t = peg n R t

abbrev pub under : ℕ → List Core → List ℕ → Core → ℕ → Evaluations
under zero R t = none_made
under (suc n) R t = evaluations n R t

-- a core at the depth n
abbrev pub core_at : ℕ → List Core → List ℕ → Core → ℕ → Outcome
core_at n R t = level (below n R t) R t

abbrev pub made_at : ℕ → List Core → List ℕ → Core → ℕ → Evaluations
made_at n R t = made (below n R t) (under n R t) R t

-- parts in turn at the depth n
abbrev pub all_at : ℕ → List Core → List ℕ → Cores → ℕ → Outcome
all_at n R t = level_all (below n R t) R t

abbrev pub all_made : ℕ → List Core → List ℕ → Cores → ℕ → Evaluations
all_made n R t = made_all (below n R t) (under n R t) R t

-- a choice of parts at the depth n
abbrev pub first_at : ℕ → List Core → List ℕ → Cores → ℕ → Outcome
first_at n R t = level_first (below n R t) R t

abbrev pub first_made : ℕ → List Core → List ℕ → Cores → ℕ → Evaluations
first_made n R t = made_first (below n R t) (under n R t) R t

-- at every depth both do the same
pub record AreAlike (p q : Core) : Type 0 where
  pub outcome : (n : ℕ) (R : List Core) (t : List ℕ) (i : ℕ) → core_at n R t p i ≡ core_at n R t q i
  pub made : (n : ℕ) (R : List Core) (t : List ℕ) (i : ℕ) → made_at n R t p i ≡ made_at n R t q i

-- a choice of one part, which is that part
abbrev pub is_alone : Core → Bool
is_alone (Choice (Then q NoMore)) = true
is_alone _ = false

-- The meaning at a depth is one level over that below.
use Rattle.std.proofs.Common.{◌≡◌, ℕ, zero, suc, List, refl}
use Rattle.rpl_core.specs.Core.{Core}
use Rattle.rpl_core.specs.Meaning.{peg}
use Rattle.rpl_trace.specs.Evaluations.{evaluations}
use Rattle.rpl_trace.specs.inside.Levels.{core_at, made_at}

pub peg_is : (n : ℕ) (R : List Core) (t : List ℕ) (e : Core) (i : ℕ) → peg n R t e i ≡ core_at n R t e i
peg_is zero R t e i = refl
peg_is (suc n) R t e i = refl

pub evaluations_are : (n : ℕ) (R : List Core) (t : List ℕ) (e : Core) (i : ℕ)
    → evaluations n R t e i ≡ made_at n R t e i
evaluations_are zero R t e i = refl
evaluations_are (suc n) R t e i = refl

-- How far an evaluation can still go, by the size of what it evaluates.
use Rattle.std.proofs.Common.{◌≡◌, ℕ, zero, suc, ◌+◌, ◌-◌, ◌*◌, ◌<◌, ◌≤◌, List, [], ◌∷◌, Some, sym, ap, subst, arith}
use Rattle.std.proofs.Math.Nat.{suc-mul}
use Rattle.std.specs.Prelude.{slice_get}
use Rattle.rpl_core.specs.Core.{Core, Set, Seq, Choice, Many, Not, And, Behind, Call, Capture, Note, Start, End, Halt}
use Rattle.rpl_core.specs.Core.{Cores, NoMore, Then}

-- how many evaluations a core has in it, and how many lengths they try
abbrev mutual
  pub weight : Core → ℕ
  weight (Set s) = 1
  weight (Seq ps) = weight_all ps + 2
  weight (Choice ps) = weight_all ps + 2
  weight (Many p) = weight p + 2
  weight (Not p) = weight p + 1
  weight (And p) = weight p + 1
  weight (Behind l m p) = weight p + (m + 1 - l) + 2
  weight (Call r) = 2
  weight (Capture c p) = weight p + 1
  weight (Note x) = 1
  weight Start = 1
  weight End = 1
  weight Halt = 1

  pub weight_all : Cores → ℕ
  weight_all NoMore = 1
  weight_all (Then p ps) = weight p + 1 + weight_all ps

-- all rules together
abbrev pub total : List Core → ℕ
total [] = 0
total (p ∷ ps) = weight p + total ps

-- no rule is heavier than all together
pub weight_in : (R : List Core) (r : ℕ) (p : Core) → slice_get R r ≡ Some p → weight p ≤ total R
weight_in [] r p e = absurd (cc)
weight_in (q ∷ R) zero p e = let same : q ≡ p = cc in let w : weight q ≡ weight p = ap weight same in omega arith
weight_in (q ∷ R) (suc r) p e = let h = weight_in R r p e in omega arith

-- the measure of a core at a depth
abbrev pub reach : List Core → ℕ → ℕ → ℕ
reach R depth w = w + depth * (total R + 1)

-- one level deeper, any rule is less
pub deeper_less : (R : List Core) (depth w v : ℕ) → 0 < depth → w ≤ total R → 0 < v
    → reach R (depth - 1) w < reach R depth v
deeper_less R zero w v lt le pos = absurd (omega arith)
deeper_less R (suc d) w v lt le pos =
    let x = suc-mul d (total R + 1) in
    let y : suc d - 1 ≡ d = omega arith in
    subst (λ n. w + n * (total R + 1) < v + suc d * (total R + 1)) (sym y) (omega (arith, x))

-- The weight of a pattern, which falls from a pattern to its parts.
use Rattle.std.proofs.Common.{◌≡◌, ℕ, zero, suc, ◌+◌, ◌<◌, List, [], ◌∷◌, length, get_or, ap, arith}
use Rattle.rpl_core.specs.Core.{Core, Set, Seq, Choice, Many, Not, And, Behind, Call, Capture, Note, Start, End, Halt}
use Rattle.rpl_core.specs.Core.{Cores, NoMore, Then}
use Rattle.rpl_core.specs.declared.peg.Peg.{Peg}
use Rattle.rpl_core.specs.declared.peg.Peg.TheViews as V
use Rattle.rpl_core.specs.declared.peg.Pegs.{Pegs}
use Rattle.rpl_core.specs.View.{core_of, cores, listed}
use Rattle.rpl_core.proofs.Rows.{seq_view, choice_view}

abbrev mutual
  pub weight : Core → ℕ
  weight (Set s) = 1
  weight (Seq ps) = weights ps + 5
  weight (Choice ps) = weights ps + 5
  weight (Many p) = weight p + 5
  weight (Not p) = weight p + 5
  weight (And p) = weight p + 5
  weight (Behind least most p) = weight p + 5
  weight (Call r) = 1
  weight (Capture c p) = weight p + 5
  weight (Note x) = 1
  weight Start = 1
  weight End = 1
  weight Halt = 1

  pub weights : Cores → ℕ
  weights NoMore = 0
  weights (Then p ps) = weight p + weights ps

part_weight : (ps : List Peg) (k : ℕ) (p : Peg) → k < length ps → p ≡ get_or ps k p
    → weight (core_of p) < weights (cores ps) + 1
part_weight [] k p lt is = absurd (omega arith)
part_weight (q ∷ ps) zero p lt is = let e = ap (λ x. weight (core_of x)) is in omega arith
part_weight (q ∷ ps) (suc k) p lt is = let h = part_weight ps k p (omega arith) is in omega arith

pub seq_part : (ps : Pegs) (k : ℕ) (p : Peg) → k < length (listed ps) → p ≡ get_or (listed ps) k p
    → weight (core_of p) + 4 < weight (core_of (V.Seq ps))
seq_part ps k p lt is = let e = ap weight (seq_view ps) in let h = part_weight (listed ps) k p lt is in omega arith

pub choice_part : (ps : Pegs) (k : ℕ) (p : Peg) → k < length (listed ps) → p ≡ get_or (listed ps) k p
    → weight (core_of p) + 4 < weight (core_of (V.Choice ps))
choice_part ps k p lt is = let e = ap weight (choice_view ps) in let h = part_weight (listed ps) k p lt is in
    omega arith

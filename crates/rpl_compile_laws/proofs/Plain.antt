-- A core without calls and repetitions, part by part.
use Rattle.std.proofs.Common.{◌≡◌}
use Rattle.std.specs.Prelude.{false}
use Rattle.rpl_core.specs.Core.{Core, Set, Seq, Choice, Many, Not, And, Behind, Call, Capture, Note, Start, End, Halt}
use Rattle.rpl_core.specs.Core.{Cores, NoMore, Then}
use Rattle.rpl_core.specs.Lengths.{has_call, any_has_call, has_repetition, any_has_repetition}
use Rattle.rpl_core.proofs.Bools.{neither}

abbrev mutual
  pub Plain : Core → Type 0
  Plain (Set s) = Unit {0}
  Plain (Seq ps) = ArePlain ps
  Plain (Choice ps) = ArePlain ps
  Plain (Many p) = ⊥
  Plain (Not p) = Plain p
  Plain (And p) = Plain p
  Plain (Behind l n p) = Plain p
  Plain (Call r) = ⊥
  Plain (Capture c p) = Plain p
  Plain (Note x) = Unit {0}
  Plain Start = Unit {0}
  Plain End = Unit {0}
  Plain Halt = Unit {0}

  pub ArePlain : Cores → Type 0
  ArePlain NoMore = Unit {0}
  ArePlain (Then p ps) = Plain p × ArePlain ps

mutual
  pub plain_of : (e : Core) → has_call e ≡ false → has_repetition e ≡ false → Plain e
  plain_of (Set s) c d = tt
  plain_of (Seq ps) c d = all_plain ps c d
  plain_of (Choice ps) c d = all_plain ps c d
  plain_of (Many p) c d = absurd (cc)
  plain_of (Not p) c d = plain_of p c d
  plain_of (And p) c d = plain_of p c d
  plain_of (Behind a b p) c d = plain_of p c d
  plain_of (Call r) c d = absurd (cc)
  plain_of (Capture x p) c d = plain_of p c d
  plain_of (Note x) c d = tt
  plain_of Start c d = tt
  plain_of End c d = tt
  plain_of Halt c d = tt

  all_plain : (ps : Cores) → any_has_call ps ≡ false → any_has_repetition ps ≡ false → ArePlain ps
  all_plain NoMore c d = tt
  all_plain (Then p ps) c d = let x = neither (has_call p) (any_has_call ps) c in
      let y = neither (has_repetition p) (any_has_repetition ps) d in (plain_of p x.0 y.0, all_plain ps x.1 y.1)

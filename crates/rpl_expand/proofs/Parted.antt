-- Cores every choice in which has a part, part by part.
use Rattle.std.proofs.Common.{◌≡◌, refl, ap₂}
use Rattle.std.specs.Prelude.{Bool, true, false, ◌||◌}
use Rattle.rpl_core.specs.Core.{Core, Set, Seq, Choice, Many, Not, And, Behind, Call, Capture, Note, Start, End, Halt}
use Rattle.rpl_core.specs.Core.{Cores, NoMore, Then}
use Rattle.rpl_core.specs.Parts.{some_inside, some_of}
use Rattle.rpl_expand.specs.Laws.{HasParts, is_hollow}

abbrev mutual
  pub Parted : Core → Type 0
  Parted (Set s) = Unit {0}
  Parted (Seq ps) = AllParted ps
  Parted (Choice NoMore) = ⊥
  Parted (Choice (Then p ps)) = Parted p × AllParted ps
  Parted (Many p) = Parted p
  Parted (Not p) = Parted p
  Parted (And p) = Parted p
  Parted (Behind l m p) = Parted p
  Parted (Call r) = Unit {0}
  Parted (Capture c p) = Parted p
  Parted (Note x) = Unit {0}
  Parted Start = Unit {0}
  Parted End = Unit {0}
  Parted Halt = Unit {0}

  pub AllParted : Cores → Type 0
  AllParted NoMore = Unit {0}
  AllParted (Then p ps) = Parted p × AllParted ps

neither : (a b : Bool) → (a || b) ≡ false → (a ≡ false) × (b ≡ false)
neither true b h = absurd cc
neither false b h = (refl, h)

mutual
  pub parted : (p : Core) → HasParts p → Parted p
  parted (Set s) h = tt
  parted (Seq ps) h = all_parted ps h
  parted (Choice NoMore) h = absurd cc
  parted (Choice (Then p ps)) h = all_parted (Then p ps) h
  parted (Many p) h = parted p h
  parted (Not p) h = parted p h
  parted (And p) h = parted p h
  parted (Behind l m p) h = parted p h
  parted (Call r) h = tt
  parted (Capture c p) h = parted p h
  parted (Note x) h = tt
  parted Start h = tt
  parted End h = tt
  parted Halt h = tt

  all_parted : (ps : Cores) → some_of is_hollow ps ≡ false → AllParted ps
  all_parted NoMore h = tt
  all_parted (Then p ps) h =
      let n = neither (some_inside is_hollow p) (some_of is_hollow ps) h in (parted p n.0, all_parted ps n.1)

mutual
  pub has_parts : (p : Core) → Parted p → HasParts p
  has_parts (Set s) h = refl
  has_parts (Seq ps) h = all_have_parts ps h
  has_parts (Choice NoMore) h = absurd h
  has_parts (Choice (Then p ps)) h = all_have_parts (Then p ps) h
  has_parts (Many p) h = has_parts p h
  has_parts (Not p) h = has_parts p h
  has_parts (And p) h = has_parts p h
  has_parts (Behind l m p) h = has_parts p h
  has_parts (Call r) h = refl
  has_parts (Capture c p) h = has_parts p h
  has_parts (Note x) h = refl
  has_parts Start h = refl
  has_parts End h = refl
  has_parts Halt h = refl

  all_have_parts : (ps : Cores) → AllParted ps → some_of is_hollow ps ≡ false
  all_have_parts NoMore h = refl
  all_have_parts (Then p ps) h = ap₂ ◌||◌ (has_parts p h.0) (all_have_parts ps h.1)

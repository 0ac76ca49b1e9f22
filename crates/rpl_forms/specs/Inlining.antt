-- What stands in a look-behind for a core.
use Rattle.std.specs.Prelude.{ℕ, List, Option, Some, None, slice_get}
use Rattle.rpl_core.specs.Core.{Core, Seq, Choice, Many, Not, And, Call, Capture, Note}
use Rattle.rpl_core.specs.Core.{Cores, NoMore, Then}

-- for each rule before the statement, what stands for a call of it in a look-behind: nothing for a rule of a block
abbrev pub Inners : Type 0
Inners = List (Option Core)

-- what stands there for a call of the rule r
abbrev pub called : ℕ → Option (Option Core) → Core
called r (Some (Some p)) = p
called r _ = Call r

-- The core without captures and notes, each call of an earlier rule outside blocks replaced by what stands for it. The
-- body of a look-behind inside is of this kind already.
abbrev mutual
  pub inlined : Inners → Core → Core
  inlined I (Seq ps) = Seq (inlined_all I ps)
  inlined I (Choice ps) = Choice (inlined_all I ps)
  inlined I (Many p) = Many (inlined I p)
  inlined I (Not p) = Not (inlined I p)
  inlined I (And p) = And (inlined I p)
  inlined I (Call r) = called r (slice_get I r)
  inlined I (Capture c p) = inlined I p
  inlined I (Note x) = Seq NoMore
  inlined I p = p

  pub inlined_all : Inners → Cores → Cores
  inlined_all I NoMore = NoMore
  inlined_all I (Then p ps) = Then (inlined I p) (inlined_all I ps)

-- what stands for a rule with this block and this body
abbrev pub inner : Inners → Option ℕ → Core → Option Core
inner I None p = Some (inlined I p)
inner I (Some block) p = None

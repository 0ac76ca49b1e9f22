-- How contracts see a pattern: the core that a `Peg` stands for.
use Rattle.std.specs.Prelude.{List, [], ◌∷◌}
use Rattle.rpl_core.specs.Core.{Core, Cores, NoMore, Then}
use Rattle.rpl_core.specs.Core as C
use Rattle.rpl_core.specs.declared.peg.Pegs.{Pegs}
use Rattle.rpl_core.specs.declared.peg.Peg.{Peg, Set, Seq', Choice', Many', Not', And', Behind', Call, Capture'}
use Rattle.rpl_core.specs.declared.peg.Peg.{Note, Start, End, Halt, Row_of-Peg, end_of-Peg, more_of-Peg}

-- the core of a pattern
abbrev mutual
  pub core_of : Peg → Core
  core_of (Set s) = C.Set s
  core_of (Seq' m ps) = C.Seq (cores_of ps)
  core_of (Choice' m ps) = C.Choice (cores_of ps)
  core_of (Many' a p) = C.Many (core_of p)
  core_of (Not' a p) = C.Not (core_of p)
  core_of (And' a p) = C.And (core_of p)
  core_of (Behind' least most a p) = C.Behind least most (core_of p)
  core_of (Call r) = C.Call r
  core_of (Capture' c a p) = C.Capture c (core_of p)
  core_of (Note x) = C.Note x
  core_of Start = C.Start
  core_of End = C.End
  core_of Halt = C.Halt

  -- the cores of parts
  pub cores_of : {m : _} → Row_of-Peg m → Cores
  cores_of end_of-Peg = NoMore
  cores_of (more_of-Peg p rest) = Then (core_of p) (cores_of rest)

-- the patterns of a list
abbrev pub listed : Pegs → List Peg
listed ps = ps.items.items

-- their cores
abbrev pub cores : List Peg → Cores
cores [] = NoMore
cores (p ∷ ps) = Then (core_of p) (cores ps)

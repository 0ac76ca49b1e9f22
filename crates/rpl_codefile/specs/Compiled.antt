-- Which cores have code that can be spelled, where it isn't too long.
use Rattle.std.specs.Prelude.{◌<◌, ◌≤◌, ◌^◌, List, length}
use Rattle.std.specs.List.{All}
use Rattle.rpl_classes.specs.Sets.{IsNormal}
use Rattle.rpl_core.specs.Core.{Core, Set, Seq, Choice, Many, Not, And, Behind, Call, Capture, Note, Start, End, Halt}
use Rattle.rpl_core.specs.Core.{Cores, NoMore, Then}
use Rattle.rpl_core.specs.Instr.{Instr}
use Rattle.rpl_core.specs.Marked.{CallsAreRules}
use Rattle.rpl_core.specs.Programs.{IsCode, max_code_length}
use Rattle.rpl_codefile.specs.Laws.{CanBeSpelled}
use Rattle.rpl_codefile.specs.Spelling.{FitsText}

-- its sets are sets, its names and messages are texts, and the lengths of its look-behinds take four bytes
abbrev mutual
  pub IsFit : Core → Type 0
  IsFit (Set s) = IsNormal s
  IsFit (Seq ps) = AreFit ps
  IsFit (Choice ps) = AreFit ps
  IsFit (Many p) = IsFit p
  IsFit (Not p) = IsFit p
  IsFit (And p) = IsFit p
  IsFit (Behind least most p) = (most < 2 ^ 32) × IsFit p
  IsFit (Call r) = Unit {0}
  IsFit (Capture label p) = FitsText label × IsFit p
  IsFit (Note x) = FitsText x
  IsFit Start = Unit {0}
  IsFit End = Unit {0}
  IsFit Halt = Unit {0}

  pub AreFit : Cores → Type 0
  AreFit NoMore = Unit {0}
  AreFit (Then p ps) = IsFit p × AreFit ps

-- the code of such a goal over a table of such rules, all of which call only rules of the table, can be spelled if it
-- isn't too long
abbrev pub CompiledCanBeSpelled : Type 0
CompiledCanBeSpelled =
    (R : List Core) (g : Core) (code : List Instr) → IsCode R g code → CallsAreRules R g → All IsFit R → IsFit g
    → length code ≤ max_code_length → CanBeSpelled code

-- What holds of all spellings.
use Rattle.std.specs.Prelude.{◌≡◌, ℕ, ◌<◌, ◌≤◌, ◌^◌, ◌↔◌, List, length}
use Rattle.std.specs.List.{All}
use Rattle.rpl_core.specs.Programs.{max_code_length}
use Rattle.rpl_classes.specs.Sets.{IsNormal}
use Rattle.rpl_core.specs.Instr.{Instr}
use Rattle.rpl_core.specs.Instr as I
use Rattle.rpl_codefile.specs.Spelling.{FitsText, Spells}

-- a code has at most one spelling
abbrev pub OneSpelling : Type 0
OneSpelling = (code : List Instr) (a b : List ℕ) → Spells code a → Spells code b → a ≡ b

-- bytes are a spelling of at most one code
abbrev pub OneReading : Type 0
OneReading = (c d : List Instr) (bytes : List ℕ) → Spells c bytes → Spells d bytes → c ≡ d

-- an instruction among n: its address is that of one of them, its length takes four bytes, its set is one, and its
-- text is of characters whose bytes can be counted in eight bytes
abbrev pub Spellable : ℕ → Instr → Type 0
Spellable n (I.Set s) = IsNormal s
Spellable n I.Start = Unit {0}
Spellable n I.End = Unit {0}
Spellable n (I.Choice l) = l < n
Spellable n (I.Commit l) = l < n
Spellable n I.FailTwice = Unit {0}
Spellable n (I.BackCommit l) = l < n
Spellable n I.Fail = Unit {0}
Spellable n (I.Back k) = k < 2 ^ 32
Spellable n (I.Meet l) = l < n
Spellable n (I.Call l) = l < n
Spellable n I.Return = Unit {0}
Spellable n (I.Open x) = FitsText x
Spellable n I.Close = Unit {0}
Spellable n (I.Note x) = FitsText x
Spellable n I.Finish = Unit {0}
Spellable n (I.TestSet l s) = (l < n) × IsNormal s
Spellable n (I.Span s) = IsNormal s
Spellable n (I.PartialCommit l) = l < n
Spellable n I.Halt = Unit {0}

-- 1 to 1,048,576 such instructions
pub record CanBeSpelled (code : List Instr) : Type 0 where
  pub some : 0 < length code
  pub limit : length code ≤ max_code_length
  pub instrs : All (Spellable (length code)) code

-- just these codes have a spelling
abbrev pub HasSpelling : Type 0
HasSpelling = (code : List Instr) → CanBeSpelled code ↔ ((bytes : List ℕ) × Spells code bytes)

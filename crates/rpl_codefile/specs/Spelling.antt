-- The one spelling of a code as bytes. Numbers are four bytes, the highest first.
use Rattle.std.specs.Prelude.{◌≡◌, ℕ, ◌<◌, ◌≤◌, ◌^◌, true, List, [], ◌∷◌, ◌++◌, length, map, encode_utf8_all}
use Rattle.std.specs.Int.{w32, w64, to_be_bytes}
use Rattle.std.specs.List.{All, flat_map}
use Rattle.std.specs.Str.{all_scalars}
use Rattle.rpl_core.specs.Programs.{max_code_length}
use Rattle.regex_class.specs.Ranges.{Range}
use Rattle.rpl_classes.specs.Sets.{IsNormal}
use Rattle.rpl_core.specs.Instr.{Instr}
use Rattle.rpl_core.specs.Numbers.{instr_of, AreInRange}
use Rattle.rpl_core.specs.declared.instr.Instr as R
use Rattle.rpl_core.specs.declared.instr.Instr.TheVariants as V
use Rattle.rpl_safe.specs.Safe.{IsSafe}
use Rattle.rpl_intern.specs.Uses.{KeepsOnce, sets_in, labels_in}

-- what a file holds: instructions with the numbers of their sets and texts, and the sets and texts
pub record File : Type 0 where
  pub code : List R.Instr
  pub sets : List (List Range)
  pub texts : List (List ℕ)

abbrev pub file_of : List R.Instr → List (List Range) → List (List ℕ) → File
file_of c s t = record { code = c; sets = s; texts = t }

-- the code that it says
abbrev pub says : File → List Instr
says f = map (instr_of f.sets f.texts) f.code

abbrev pub number : ℕ → List ℕ
number n = to_be_bytes w32 n

abbrev pub range : Range → List ℕ
range r = number r.0 ++ number r.1

-- how many ranges, and each
abbrev pub set : List Range → List ℕ
set s = number (length s) ++ flat_map range s

-- how many bytes, in eight bytes, and the bytes
abbrev pub counted : List ℕ → List ℕ
counted bytes = to_be_bytes w64 (length bytes) ++ bytes

abbrev pub text : List ℕ → List ℕ
text x = counted (encode_utf8_all x)

-- a byte, and the operands in the order in which they print
abbrev pub instr : R.Instr → List ℕ
instr (V.Set s) = 0x01 ∷ number s
instr V.Start = 0x02 ∷ []
instr V.End = 0x03 ∷ []
instr (V.Choice l) = 0x04 ∷ number l
instr (V.Commit l) = 0x05 ∷ number l
instr V.FailTwice = 0x06 ∷ []
instr (V.BackCommit l) = 0x07 ∷ number l
instr V.Fail = 0x08 ∷ []
instr (V.Back k) = 0x09 ∷ number k
instr (V.Meet l) = 0x0a ∷ number l
instr (V.Call l) = 0x0b ∷ number l
instr V.Return = 0x0c ∷ []
instr (V.Open c) = 0x0d ∷ number c
instr V.Close = 0x0e ∷ []
instr (V.Note x) = 0x0f ∷ number x
instr V.Finish = 0x10 ∷ []
instr (V.PartialCommit l) = 0x11 ∷ number l
instr (V.Span s) = 0x12 ∷ number s
instr (V.TestSet l s) = 0x13 ∷ (number l ++ number s)
instr V.Halt = 0x14 ∷ []

-- RPLCODE1
abbrev pub magic : List ℕ
magic = 0x52 ∷ 0x50 ∷ 0x4c ∷ 0x43 ∷ 0x4f ∷ 0x44 ∷ 0x45 ∷ 0x31 ∷ []

-- the eight bytes, the sets, the texts, and the instructions, each after their number
abbrev pub body : File → List ℕ
body f =
    number (length f.sets) ++ (flat_map set f.sets
    ++ (number (length f.texts) ++ (flat_map text f.texts
    ++ (number (length f.code) ++ flat_map instr f.code))))

abbrev pub spelling : File → List ℕ
spelling f = magic ++ body f

-- the numbers of an instruction are four bytes
abbrev pub Short : R.Instr → Type 0
Short (V.Set n) = n < 2 ^ 32
Short (V.Choice n) = n < 2 ^ 32
Short (V.Commit n) = n < 2 ^ 32
Short (V.BackCommit n) = n < 2 ^ 32
Short (V.Back n) = n < 2 ^ 32
Short (V.Meet n) = n < 2 ^ 32
Short (V.Call n) = n < 2 ^ 32
Short (V.Open n) = n < 2 ^ 32
Short (V.Note n) = n < 2 ^ 32
Short (V.PartialCommit n) = n < 2 ^ 32
Short (V.Span n) = n < 2 ^ 32
Short (V.TestSet l k) = (l < 2 ^ 32) × (k < 2 ^ 32)
Short _ = Unit {0}

abbrev pub ShortRange : Range → Type 0
ShortRange r = (r.0 < 2 ^ 32) × (r.1 < 2 ^ 32)

-- a set in its one form, whose numbers are four bytes
pub record FitsSet (s : List Range) : Type 0 where
  pub long : length s < 2 ^ 32
  pub ranges : All ShortRange s
  pub normal : IsNormal s

-- characters, whose bytes can be counted in eight bytes
abbrev pub FitsText : List ℕ → Type 0
FitsText x = (all_scalars x ≡ true) × (length (encode_utf8_all x) < 2 ^ 64)

-- each number has its bytes, and each set and text is one
pub record FitsFile (f : File) : Type 0 where
  pub sets_few : length f.sets < 2 ^ 32
  pub texts_few : length f.texts < 2 ^ 32
  pub code_few : length f.code < 2 ^ 32
  pub sets : All FitsSet f.sets
  pub texts : All FitsText f.texts
  pub code : All Short f.code

-- what has a spelling: 1 to 1,048,576 instructions whose numbers are in range; the sets and texts are those that they
-- use, each once, in the order of their first uses
pub record IsFile (f : File) : Type 0 where
  pub some : 0 < length f.code
  pub limit : length f.code ≤ max_code_length
  pub in_range : AreInRange f.code f.sets f.texts
  pub sets : KeepsOnce (sets_in (says f)) f.sets
  pub texts : KeepsOnce (labels_in (says f)) f.texts
  pub fits : FitsFile f

-- the bytes are a spelling of the code
pub record Spells (code : List Instr) (bytes : List ℕ) : Type 0 where
  pub file : File
  pub is_file : IsFile file
  pub code_is : code ≡ says file
  pub bytes_are : bytes ≡ spelling file

-- the bytes are a spelling of no code
abbrev pub SpellsNone : List ℕ → Type 0
SpellsNone bytes = (code : List Instr) → Spells code bytes → ⊥

-- they are that of a code that isn't safe
abbrev pub SpellsUnsafe : List ℕ → Type 0
SpellsUnsafe bytes = (code : List Instr) × Spells code bytes × (IsSafe code → ⊥)

-- Reading from left to right. Bytes that are no spelling may be read too: whoever reads writes what was read once
-- more, and compares.
use Rattle.std.specs.Prelude.{◌≡◌, ℕ, zero, suc, List, [], ◌∷◌, length, take, drop, Option, Some, None}
use Rattle.std.specs.Prelude.{nat_eq, nat_lt, if◌then◌else◌, Result, Ok, Err}
use Rattle.std.specs.Str.{is_utf8, chars}
use Rattle.regex_class.specs.Ranges.{Range}
use Rattle.rpl_classes.specs.Norm.{norm}
use Rattle.rpl_codefile.specs.Spelling.{File, Spells, SpellsNone, spelling}
use Rattle.rpl_core.specs.Program.{instructions}
use Rattle.rpl_core.specs.declared.program.Program.{Program}
use Rattle.rpl_codefile.specs.declared.fault.CodeFault.{CodeFault}
use Rattle.rpl_codefile.specs.declared.fault.CodeFault.TheVariants as errors
use Rattle.std.specs.Int.{Width, w32, w64, byte_len, from_be_bytes}
use Rattle.rpl_text.specs.Options.{◌>>=◌}
use Rattle.rpl_core.specs.declared.instr.Instr as R
use Rattle.rpl_core.specs.declared.instr.Instr.TheVariants as V

-- a number and the bytes after it
abbrev pub number_at : Width → List ℕ → Option (ℕ × List ℕ)
number_at w bytes =
    if nat_lt (length bytes) (byte_len w) then None
    else Some (from_be_bytes w (take (byte_len w) bytes), drop (byte_len w) bytes)

-- the instruction of a byte that has no operand
abbrev pub bare : ℕ → Option R.Instr
bare b =
    if nat_eq b 0x02 then Some V.Start
    else (if nat_eq b 0x03 then Some V.End
    else (if nat_eq b 0x06 then Some V.FailTwice
    else (if nat_eq b 0x08 then Some V.Fail
    else (if nat_eq b 0x0c then Some V.Return
    else (if nat_eq b 0x0e then Some V.Close
    else (if nat_eq b 0x10 then Some V.Finish
    else (if nat_eq b 0x14 then Some V.Halt
    else None)))))))

-- the instruction of a byte with one operand
abbrev pub with_number : ℕ → ℕ → Option R.Instr
with_number b n =
    if nat_eq b 0x01 then Some (V.Set n)
    else (if nat_eq b 0x04 then Some (V.Choice n)
    else (if nat_eq b 0x05 then Some (V.Commit n)
    else (if nat_eq b 0x07 then Some (V.BackCommit n)
    else (if nat_eq b 0x09 then Some (V.Back n)
    else (if nat_eq b 0x0a then Some (V.Meet n)
    else (if nat_eq b 0x0b then Some (V.Call n)
    else (if nat_eq b 0x0d then Some (V.Open n)
    else (if nat_eq b 0x0f then Some (V.Note n)
    else (if nat_eq b 0x11 then Some (V.PartialCommit n)
    else (if nat_eq b 0x12 then Some (V.Span n)
    else None))))))))))

abbrev pub one_at : ℕ → List ℕ → Option (R.Instr × List ℕ)
one_at b bytes = do
  n ← number_at w32 bytes
  i ← with_number b n.0
  Some (i, n.1)

abbrev pub two_at : List ℕ → Option (R.Instr × List ℕ)
two_at bytes = do
  l ← number_at w32 bytes
  s ← number_at w32 l.1
  Some (V.TestSet l.0 s.0, s.1)

abbrev pub many_at : ℕ → List ℕ → Option (R.Instr × List ℕ)
many_at b bytes = if nat_eq b 0x13 then two_at bytes else one_at b bytes

-- the bare instruction, or what else it is
abbrev pub or_many : Option R.Instr → ℕ → List ℕ → Option (R.Instr × List ℕ)
or_many (Some i) b bytes = Some (i, bytes)
or_many None b bytes = many_at b bytes

unfoldable pub instr_at : List ℕ → Option (R.Instr × List ℕ)
instr_at [] = None
instr_at (b ∷ bytes) = or_many (bare b) b bytes

-- so many of them
unfoldable pub items_at : {X : Type 0} → (List ℕ → Option (X × List ℕ)) → ℕ → List ℕ → Option (List X × List ℕ)
items_at read zero bytes = Some ([], bytes)
items_at read (suc n) bytes = do
  first ← read bytes
  others ← items_at read n first.1
  Some (first.0 ∷ others.0, others.1)

unfoldable pub range_at : List ℕ → Option (Range × List ℕ)
range_at bytes = do
  low ← number_at w32 bytes
  high ← number_at w32 low.1
  Some ((low.0, high.0), high.1)

-- the set of the ranges, in its one form
unfoldable pub set_at : List ℕ → Option (List Range × List ℕ)
set_at bytes = do
  n ← number_at w32 bytes
  rs ← items_at range_at n.0 n.1
  Some (norm rs.0, rs.1)

unfoldable pub text_at : List ℕ → Option (List ℕ × List ℕ)
text_at bytes = do
  n ← number_at w64 bytes
  if nat_lt (length n.1) n.0 then None
      else (if is_utf8 (take n.0 n.1) then Some (chars (take n.0 n.1), drop n.0 n.1) else None)

-- after the eight bytes
unfoldable pub file_at : List ℕ → Option File
file_at bytes = do
  s ← number_at w32 bytes
  sets ← items_at set_at s.0 s.1
  t ← number_at w32 sets.1
  texts ← items_at text_at t.0 t.1
  c ← number_at w32 texts.1
  code ← items_at instr_at c.0 c.1
  Some (record { code = code.0; sets = sets.0; texts = texts.0 })

-- What a function returned, seen by view, is what reading gives, unless memory ran out.
abbrev pub Gives : {X Y : Type 0} → (X → Y) → Result X CodeFault → Option Y → Type 0
Gives view (Ok x) read = read ≡ Some (view x)
Gives view (Err errors.NotCode) read = read ≡ None
Gives view (Err errors.NoMemory) read = Unit {0}
Gives view (Err errors.NotSafe) read = ⊥

-- the program is the one that the bytes spell, or they spell none
abbrev pub Reads : List ℕ → Result Program CodeFault → Type 0
Reads bytes (Ok p) = Spells (instructions p) bytes
Reads bytes (Err errors.NotCode) = SpellsNone bytes
Reads bytes (Err errors.NoMemory) = Unit {0}
Reads bytes (Err errors.NotSafe) = ⊥

-- where nothing is read, the bytes are no spelling
abbrev pub NothingRead : Type 0
NothingRead = (bytes : List ℕ) → file_at (drop 8 bytes) ≡ None → SpellsNone bytes

-- where something is read whose spelling is another, they are none either
abbrev pub OtherSpelling : Type 0
OtherSpelling =
    (bytes : List ℕ) (f : File) → file_at (drop 8 bytes) ≡ Some f → (spelling f ≡ bytes → ⊥) → SpellsNone bytes

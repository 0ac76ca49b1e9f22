-- What a file was read as before its text is looked at.
use Rattle.std.specs.Prelude.{◌≡◌, ◌<◌, ◌≤◌, ◌⊎◌, ℕ, false, List, length, Option, Some, None, Result, Ok, Err}
use Rattle.std.specs.Prelude.{string_bytes}
use Rattle.std.specs.Str.{is_utf8}
use Rattle.rosie_io.specs.Counts.{Rose}
use Rattle.rpl_scope.specs.Faults.{is_silent}
use Rattle.rpl_names.specs.Texts.{max_text_bytes}
use Rattle.rpl_scope.specs.declared.fault.LoadKind.{LoadKind}
use Rattle.rpl_scope.specs.declared.fault.LoadKind.TheVariants as K
use Rattle.rpl_scope.specs.declared.fault.Stop.{Stop}
use Rattle.rpl_scope.specs.declared.fault.Stop.TheVariants.{Memory, Fault}
use Rattle.rpl_package.specs.declared.reading.Read.{Read}
use Rattle.rpl_package.specs.declared.reading.Read.TheVariants.{Text, TooLong, NotText}
use Rattle.rpl_package.specs.declared.locate.Located.{Located}

-- a file of these bytes is read so
abbrev pub IsRead : Read → List ℕ → Type 0
IsRead (Text s) bytes = (bytes ≡ string_bytes s) × (length bytes ≤ max_text_bytes)
IsRead TooLong bytes = max_text_bytes < length bytes
IsRead NotText bytes = (length bytes ≤ max_text_bytes) × (is_utf8 bytes ≡ false)

-- a file of these bytes, if there is one, is read so
abbrev pub ReadsFile : Option Read → Option (List ℕ) → Type 0
ReadsFile None file = file ≡ None
ReadsFile (Some r) file = (bytes : List ℕ) × (file ≡ Some bytes) × IsRead r bytes

-- the file that was looked for, with its bytes
abbrev pub Locates : Option Located → Option (List ℕ × List ℕ) → Type 0
Locates None found = found ≡ None
Locates (Some l) found = (bytes : List ℕ) × (found ≡ Some (l.file, bytes)) × IsRead l.read bytes

-- it stops because memory ran out, or because a read failed
abbrev pub IsQuiet : Stop → Type 0
IsQuiet Memory = Unit {0}
IsQuiet (Fault f) = f.kind ≡ K.ReadFault

-- it stops because memory ran out, or with a fault of the texts
abbrev pub IsLoud : Stop → Type 0
IsLoud Memory = Unit {0}
IsLoud (Fault f) = is_silent f.kind ≡ false

-- the counts of failed reads and of failed opens: a read fault comes only where one of the two rose, and any other
-- answer leaves both; where memory runs out, neither falls
abbrev pub KindCause : LoadKind → (reads0 reads1 opens0 opens1 : ℕ) → Type 0
KindCause K.NoMemory r0 r1 o0 o1 = ⊥
KindCause K.ReadFault r0 r1 o0 o1 = (r0 ≤ r1) × (o0 ≤ o1) × (Rose r0 r1 ⊎ Rose o0 o1)
KindCause _ r0 r1 o0 o1 = (r1 ≡ r0) × (o1 ≡ o0)

abbrev pub StopCause : Stop → (reads0 reads1 opens0 opens1 : ℕ) → Type 0
StopCause Memory r0 r1 o0 o1 = (r0 ≤ r1) × (o0 ≤ o1)
StopCause (Fault f) r0 r1 o0 o1 = KindCause f.kind r0 r1 o0 o1

abbrev pub HasCause : {X : Type 0} → Result X Stop → (reads0 reads1 opens0 opens1 : ℕ) → Type 0
HasCause (Ok x) r0 r1 o0 o1 = (r1 ≡ r0) × (o1 ≡ o0)
HasCause (Err s) r0 r1 o0 o1 = StopCause s r0 r1 o0 o1

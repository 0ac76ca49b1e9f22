-- What the one spelling of what was read tells of the bytes.
use Rattle.std.proofs.Common.{◌≡◌, ℕ, ◌≤◌, List, length, drop, Some, None, refl, sym, ap, ◌∙◌, subst, arith}
use Rattle.std.proofs.lemmas.List.{drop_at, length-map}
use Rattle.rpl_core.specs.Instr.{Instr}
use Rattle.rpl_codefile.specs.inside.Tables.{AreParts}
use Rattle.rpl_codefile.specs.Spelling.{File, IsFile, says, magic, body, spelling, Spells, SpellsNone, SpellsUnsafe}
use Rattle.rpl_codefile.specs.inside.Reading.{file_at, Reads}
use Rattle.std.specs.Prelude.{Err, Result}
use Rattle.rpl_core.specs.Numbers.{instr_of}
use Rattle.rpl_core.specs.Program.{code_of, instructions, labels_of, sets_of}
use Rattle.rpl_core.specs.declared.program.Program.{Program}
use Rattle.rpl_codefile.specs.declared.fault.CodeFault.{CodeFault}
use Rattle.rpl_codefile.specs.declared.fault.CodeFault.TheVariants as errors
use Rattle.rpl_codefile.proofs.Items.{Fails}
use Rattle.rpl_codefile.specs.Laws.{OneReading}
use Rattle.rpl_codefile.specs.inside.Reading.{NothingRead, OtherSpelling}
use Rattle.rpl_codefile.proofs.Again.{file_again}

some_same : (f g : File) → Some f ≡ Some g → f ≡ g
some_same f g e = cc

-- what is spelled is read
spelled_read : (c : List Instr) (bytes : List ℕ) (x : Spells c bytes) → file_at (drop 8 bytes) ≡ Some x.file
spelled_read c bytes x =
    ap (λ b. file_at (drop 8 b)) x.bytes_are ∙ ap file_at (drop_at magic (body x.file) 8 refl)
    ∙ file_again x.file x.is_file.fits

-- bytes spell at most one code
pub one_reading_holds : OneReading
one_reading_holds c d bytes x y =
    let same = some_same x.file y.file (sym (spelled_read c bytes x) ∙ spelled_read d bytes y) in
    x.code_is ∙ ap says same ∙ sym y.code_is

pub nothing_read_holds : NothingRead
nothing_read_holds bytes none c x =
    let z : None ≡ Some x.file = sym none ∙ spelled_read c bytes x in
    absurd (cc)

pub other_spelling_holds : OtherSpelling
other_spelling_holds bytes f read ne c x =
    let same = some_same f x.file (sym read ∙ spelled_read c bytes x) in
    ne (ap spelling same ∙ sym x.bytes_are)

-- what was read and can't be a file
pub no_file : (bytes : List ℕ) (f : File) → file_at (drop 8 bytes) ≡ Some f → (IsFile f → ⊥) → (c : List Instr)
    → Spells c bytes → ⊥
no_file bytes f read bad c x =
    let same = some_same x.file f (sym (spelled_read c bytes x) ∙ read) in
    bad (subst IsFile same x.is_file)

-- a file is made of parts
pub parts_of_file : (f : File) → IsFile f → AreParts f.code f.sets f.texts
parts_of_file f is = record {
  some = is.some;
  limit = is.limit;
  in_range = is.in_range;
  once_sets = is.sets;
  once_texts = is.texts;
}

-- an error of the reader
pub not_read : (bytes : List ℕ) (e : CodeFault) → Fails e (file_at (drop 8 bytes)) → Reads bytes (Err e)
not_read bytes errors.NoMemory h = tt
not_read bytes errors.NotCode h = nothing_read_holds bytes h
not_read bytes errors.NotSafe h = absurd h

-- what an error of the reader says, whichever it is
pub says_none : (bytes : List ℕ) (e : CodeFault) (r : Result Program CodeFault) → r ≡ Err e → Reads bytes (Err e)
    → r ≡ Err errors.NotCode → SpellsNone bytes
says_none bytes errors.NoMemory r is h q = absurd (cc)
says_none bytes errors.NotCode r is h q = h
says_none bytes errors.NotSafe r is h q = absurd h

pub not_unsafe : (bytes : List ℕ) (e : CodeFault) (r : Result Program CodeFault) → r ≡ Err e → Reads bytes (Err e)
    → r ≡ Err errors.NotSafe → SpellsUnsafe bytes
not_unsafe bytes errors.NoMemory r is h q = absurd (cc)
not_unsafe bytes errors.NotCode r is h q = absurd (cc)
not_unsafe bytes errors.NotSafe r is h q = absurd h

-- a code that is spelled isn't too long
pub spelled_long : (p : Program) (bytes : List ℕ) → Spells (instructions p) bytes → length (code_of p) ≤ 1048576
spelled_long p bytes x =
    omega (
      arith,
      x.is_file.limit,
      ap length x.code_is,
      length-map (code_of p) (instr_of (sets_of p) (labels_of p)),
      length-map x.file.code (instr_of x.file.sets x.file.texts),
    )

-- What an answer says of a file.
use Rattle.std.proofs.Common.{◌≡◌, ℕ, ◌≤◌, List, [], ◌∷◌, ◌++◌, length, Option, Some, refl, sym, subst, inl, inr}
use Rattle.std.specs.Prelude.{Result, Ok, Err, codes, encode_utf8_all, string_bytes}
use Rattle.rosie_io.specs.declared.whole_files.FileFault.{FileFault}
use Rattle.rosie_io.specs.declared.whole_files.FileFault.TheVariants as F
use Rattle.rpl_codefile.specs.Spelling.{SpellsNone}
use Rattle.rpl_core.specs.Program.{instructions}
use Rattle.rpl_core.specs.declared.program.Program.{Program}
use Rattle.rosie_jobs.specs.Loaded.{IsLoaded, max_code_bytes}
use Rattle.rosie_jobs.specs.Answers.{Loads}
use Rattle.rosie_run.specs.Unready.{AskedTill, HasAsked}
use Rattle.rosie_run.specs.declared.unready.Unready.{Unready}
use Rattle.rosie_run.specs.declared.unready.Unready.TheVariants.{NoMemory, ReadFault, Refused}
use Rattle.rosie_jobs.specs.inside.Telling.{IsToldOfFile, Reads, Refuses}

-- bytes that spell nothing
pub reads_none : (path bytes : List ℕ) (u : Unready) → Refuses path (codes "not a code file") u → SpellsNone bytes
    → Reads path bytes (Err u)
reads_none path bytes NoMemory e none = tt
reads_none path bytes (Refused line) e none = inl (none, e)
reads_none path bytes (ReadFault failed) e none = absurd e

-- a file that isn't too long
pub loads_read : (path bytes : List ℕ) (file : Option (List ℕ)) (r : Result Program Unready) → file ≡ Some bytes
    → length bytes ≤ max_code_bytes → Reads path bytes r → Loads path file r
loads_read path bytes file (Ok p) e le h = subst (λ f. IsLoaded path f (Ok (instructions p))) (sym e) (inr (le, h))
loads_read path bytes file (Err NoMemory) e le h = tt
loads_read path bytes file (Err (Refused line)) e le h =
    subst (λ f. IsLoaded path f (Err (string_bytes line))) (sym e) (inr (le, h))
loads_read path bytes file (Err (ReadFault failed)) e le h = absurd h

-- ---- the path that is asked for

-- bytes were read, so no read failed
pub read_asked : (path bytes p : List ℕ) (before now : List (List ℕ)) (r : Result Program Unready) → Reads path bytes r
    → now ≡ before ++ p ∷ [] → HasAsked before now r (p ∷ [])
read_asked path bytes p before now (Ok program) h is = (p ∷ [], is, refl)
read_asked path bytes p before now (Err NoMemory) h is = (p ∷ [], is, ([], refl))
read_asked path bytes p before now (Err (Refused line)) h is = (p ∷ [], is, refl)
read_asked path bytes p before now (Err (ReadFault failed)) h is = absurd h

refused_till : (path text p : List ℕ) (u : Unready) → Refuses path text u → AskedTill u (p ∷ []) (p ∷ [])
refused_till path text p NoMemory h = ([], refl)
refused_till path text p (Refused line) h = refl
refused_till path text p (ReadFault failed) h = absurd h

told_till : (path : List ℕ) (fault : FileFault) (u : Unready) → IsToldOfFile path fault u
    → AskedTill u (encode_utf8_all path ∷ []) (encode_utf8_all path ∷ [])
told_till path F.NoMemory u h =
    subst (λ v. AskedTill v (encode_utf8_all path ∷ []) (encode_utf8_all path ∷ [])) (sym h) ([], refl)
told_till path F.Missing u h = refused_till (encode_utf8_all path) (codes "no such file") (encode_utf8_all path) u h
told_till path F.TooLong u h = refused_till (encode_utf8_all path) (codes "text too long") (encode_utf8_all path) u h
told_till path F.NotText u h = absurd h
told_till path F.ReadFault u h =
    subst (λ v. AskedTill v (encode_utf8_all path ∷ []) (encode_utf8_all path ∷ [])) (sym h) ([], [], refl, refl)

-- the file could not be read
pub fault_asked : (path : List ℕ) (fault : FileFault) (before now : List (List ℕ)) (u : Unready)
    → IsToldOfFile path fault u → now ≡ before ++ encode_utf8_all path ∷ []
    → HasAsked {X = Program} before now (Err u) (encode_utf8_all path ∷ [])
fault_asked path fault before now u h is = (encode_utf8_all path ∷ [], is, told_till path fault u h)

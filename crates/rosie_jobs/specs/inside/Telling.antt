-- Why a file is refused.
use Rattle.std.specs.Prelude.{◌≡◌, ℕ, List, Result, Ok, Err, codes, encode_utf8_all, string_bytes}
use Rattle.rosie_io.specs.declared.whole_files.FileFault.{FileFault}
use Rattle.rosie_io.specs.declared.whole_files.FileFault.TheVariants as F
use Rattle.rosie_run.specs.Lines.{input_fault}
use Rattle.rpl_core.specs.Program.{instructions}
use Rattle.rpl_core.specs.declared.program.Program.{Program}
use Rattle.rosie_jobs.specs.Loaded.{IsRead}
use Rattle.rosie_run.specs.declared.unready.Unready.{Unready}
use Rattle.rosie_run.specs.declared.unready.Unready.TheVariants.{NoMemory, ReadFault, Refused}

-- the line has these words, unless memory runs out
abbrev pub Refuses : List ℕ → List ℕ → Unready → Type 0
Refuses path text NoMemory = Unit {0}
Refuses path text (Refused line) = string_bytes line ≡ input_fault path text
Refuses path text (ReadFault failed) = ⊥

-- what is reported of a fault of the file at this path
abbrev pub IsToldOfFile : List ℕ → FileFault → Unready → Type 0
IsToldOfFile path F.NoMemory u = u ≡ NoMemory
IsToldOfFile path F.Missing u = Refuses (encode_utf8_all path) (codes "no such file") u
IsToldOfFile path F.TooLong u = Refuses (encode_utf8_all path) (codes "text too long") u
IsToldOfFile path F.NotText u = ⊥
IsToldOfFile path F.ReadFault u = u ≡ ReadFault path

-- what an answer says of the bytes
abbrev pub Reads : List ℕ → List ℕ → Result Program Unready → Type 0
Reads path bytes (Ok program) = IsRead path bytes (Ok (instructions program))
Reads path bytes (Err NoMemory) = Unit {0}
Reads path bytes (Err (Refused line)) = IsRead path bytes (Err (string_bytes line))
Reads path bytes (Err (ReadFault failed)) = ⊥

-- What the steps from a file to its tests leave.
use Rattle.std.specs.Prelude.{◌≡◌, ◌≤◌, ℕ, List, length, Option, Some, Result, Ok, Err, codes, encode_utf8_all}
use Rattle.std.specs.Prelude.{string_bytes}
use Rattle.rpl_names.specs.Texts.{max_text_bytes}
use Rattle.rosie_prepare.specs.Answers.{IsDue}
use Rattle.rosie_run.specs.declared.unready.Unready.{Unready}
use Rattle.rosie_run.specs.declared.unready.Unready.TheVariants.{NoMemory, Refused, ReadFault}
use Rattle.rosie_run.specs.Lines.{line_fault}
use Rattle.rpl_unittest.specs.Comments.{HasBad}
use Rattle.rosie_suites.specs.Suites.{read_again}

-- no read failed
abbrev pub IsOwn : Unready → Type 0
IsOwn (ReadFault path) = ⊥
IsOwn _ = Unit {0}

-- a refusal has this line, if there is memory for it; no read failed
abbrev pub IsRefusal : Unready → List ℕ → Type 0
IsRefusal NoMemory line = Unit {0}
IsRefusal (Refused text) line = string_bytes text ≡ line
IsRefusal (ReadFault path) line = ⊥

-- a refusal has the line of the first bad test comment of this text; no read failed
abbrev pub IsBadTest : (file text : List ℕ) → Unready → Type 0
IsBadTest file text NoMemory = Unit {0}
IsBadTest file text (Refused line) =
    (n : ℕ) × HasBad text n × (string_bytes line ≡ line_fault (encode_utf8_all file) n (codes "bad test"))
IsBadTest file text (ReadFault path) = ⊥

-- the bytes of a file, if there is one, were read as this text, or the file is refused as a whole
abbrev pub Rereads : {X : Type 0} → (X → List ℕ) → Result X Unready → (file : List ℕ) → Option (List ℕ) → Type 0
Rereads view (Ok text) file o = (o ≡ Some (view text)) × (length (view text) ≤ max_text_bytes)
Rereads view (Err u) file o = IsDue u (read_again file o)

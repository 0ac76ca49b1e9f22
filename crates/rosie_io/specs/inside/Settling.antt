-- What a reader answers for the gathered line, and its state afterwards.
use Rattle.std.specs.Prelude.{ℕ, ◌+◌, ◌*◌, ◌<◌, Bool, true, false, List, [], length, if◌then◌else◌, Result, Ok, Err}
use Rattle.std.specs.Str.{is_utf8}
use Rattle.rosie_io.specs.Reader.{Reader}
use Rattle.rosie_io.specs.declared.gather.Found.{Found}
use Rattle.rosie_io.specs.declared.gather.Found.TheVariants.{Line, Long, End}
use Rattle.rosie_io.specs.declared.reader.Line.{Line as Answer}
use Rattle.rosie_io.specs.declared.reader.Line.TheVariants.{Text, End as NoFurther}
use Rattle.rosie_io.specs.declared.reader.LineFault.{LineFault}
use Rattle.rosie_io.specs.declared.reader.LineFault.TheVariants.{TooLong, NotText}

-- the answer, where is_text says whether the line's bytes are text, and n is the line's number
abbrev pub answer_of : Result Found LineFault → Bool → ℕ → Result Answer LineFault
answer_of (Ok Line) true n = Ok Text
answer_of (Ok Line) false n = Err (NotText n)
answer_of (Ok Long) is_text n = Err (TooLong n)
answer_of (Ok End) is_text n = Ok NoFurther
answer_of (Err fault) is_text n = Err fault

-- where the reader stands that counts what was gathered
abbrev pub settled : Result Found LineFault → Reader → Reader
settled (Ok Line) r = record r { number = r.number + 1 }
settled (Ok Long) r = record r { number = r.number + 1 }
settled (Ok End) r = record r { done = true }
settled (Err fault) r = record r { done = true }

-- the bytes where they are a text, and else none
abbrev pub text_in : List ℕ → List ℕ
text_in bytes = if is_utf8 bytes then bytes else []

-- those of a line
abbrev pub line_in : Result Found LineFault → List ℕ → List ℕ
line_in (Ok Line) bytes = text_in bytes
line_in (Ok Long) bytes = []
line_in (Ok End) bytes = []
line_in (Err fault) bytes = []

-- the reads suffice to count the line that was gathered
abbrev pub CanCount : Result Found LineFault → Reader → Type 0
CanCount (Ok Line) r = r.number + length r.held.bytes < 65536 * r.held.reads
CanCount (Ok Long) r = r.number + length r.held.bytes < 65536 * r.held.reads
CanCount (Ok End) r = Unit {0}
CanCount (Err _) r = Unit {0}

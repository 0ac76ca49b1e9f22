-- What stands of a line while it is gathered, and what the gathering answers.
use Rattle.std.specs.Prelude.{ℕ, ◌≡◌, ◌+◌, ◌*◌, ◌<◌, ◌≤◌, Bool, true, false, List, [], ◌∷◌, ◌++◌, length}
use Rattle.std.specs.Prelude.{Result, Ok, Err}
use Rattle.rosie_io.specs.Gathering.{unread, Splits, NoFeed}
use Rattle.rosie_io.specs.Held.{Held}
use Rattle.rosie_io.specs.Stopping.{HasMade}
use Rattle.rosie_io.specs.Lines.{feeds}
use Rattle.rosie_io.specs.declared.gather.Found.{Found}
use Rattle.rosie_io.specs.declared.gather.Found.TheVariants.{Line, Long, End}
use Rattle.rosie_io.specs.declared.reader.LineFault.{LineFault}
use Rattle.rosie_io.specs.declared.reader.LineFault.TheVariants.{NoMemory, TooLong, NotText, Stopped}

-- the part of the line that was seen is kept, unless it is too long
abbrev pub IsKept : Bool → ℕ → List ℕ → List ℕ → Type 0
IsKept true most line seen = (length line ≤ most) × (most < length seen)
IsKept false most line seen = (line ≡ seen) × (length seen ≤ most)

-- where a gathering stands: got is what the reads gave so far, and seen is the line so far; what was held and then got
-- is seen and then what is held now
pub record Gathered (whole : Bool) (most : ℕ) (tells : Type 0) (old : Held) (rest0 : List ℕ) (long : Bool)
    (line : List ℕ) (now : Held) (rest seen got : List ℕ) : Type 0 where
  pub kept : IsKept long most line seen
  pub one : whole ≡ false → feeds seen ≡ 0
  pub took : tells → unread old.ended rest0 ≡ got ++ unread now.ended rest
  pub all : old.bytes ++ got ≡ seen ++ now.bytes
  pub bound : length got + 65536 * old.reads ≤ 65536 * now.reads
  pub ended : old.ended ≡ true → now.ended ≡ true

-- the bytes that were left and are left, where they are told: a line within most bytes, a longer one, or none
abbrev pub Finds : Result Found LineFault → Bool → ℕ → Bool → List ℕ → List ℕ → List ℕ → Type 0
Finds (Ok Line) whole most ended line left0 left1 = Splits whole ended line left0 left1 × (length line ≤ most)
Finds (Ok Long) whole most ended line left0 left1 =
    (seen : List ℕ) × Splits whole ended seen left0 left1 × (most < length seen)
Finds (Ok End) whole most ended line left0 left1 = (left0 ≡ []) × (left1 ≡ [])
Finds (Err _) whole most ended line left0 left1 = Unit {0}

-- the line's kind, when it is whole
abbrev pub kind_of : Bool → Found
kind_of true = Long
kind_of false = Line

-- the line's kind, when the input is at its end
abbrev pub last_kind : Bool → List ℕ → Found
last_kind true line = Long
last_kind false [] = End
last_kind false (b ∷ line) = Line

-- a read that failed or wasn't made came before the line's end; gathering never answers TooLong or NotText
abbrev pub Stops : Result Found LineFault → Bool → Type 0 → Held → Held → List ℕ → List ℕ → Type 0
Stops (Ok _) whole tells old now rest0 rest1 = Unit {0}
Stops (Err NoMemory) whole tells old now rest0 rest1 = Unit {0}
Stops (Err (Stopped why)) whole tells old now rest0 rest1 =
    ((got : List ℕ) × NoFeed whole tells old.bytes rest0 rest1 got) × (old.ended ≡ false) × HasMade why now.reads
Stops (Err (TooLong n)) whole tells old now rest0 rest1 = ⊥
Stops (Err (NotText n)) whole tells old now rest0 rest1 = ⊥

-- with 65,536 bytes for each read, no more is held than was held and read, and a line took one byte at least
abbrev pub Uses : Result Found LineFault → Held → Held → Type 0
Uses (Ok Line) old now = 1 + length now.bytes + 65536 * old.reads ≤ length old.bytes + 65536 * now.reads
Uses (Ok Long) old now = 1 + length now.bytes + 65536 * old.reads ≤ length old.bytes + 65536 * now.reads
Uses (Ok End) old now = (now.bytes ≡ []) × (now.ended ≡ true)
Uses (Err _) old now = length now.bytes + 65536 * old.reads ≤ length old.bytes + 65536 * now.reads

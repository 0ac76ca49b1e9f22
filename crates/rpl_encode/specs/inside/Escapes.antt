-- What stands for the parts of a line in strings of JSON.
use Rattle.std.specs.Prelude.{◌≡◌, ℕ, ◌+◌, ◌<◌, ◌≤◌, true, List, length, drop, get_or}
use Rattle.json.specs.Print.{escape}
use Rattle.rpl_print.specs.Quoted.{is_plain}
use Rattle.rpl_encode.specs.declared.escapes.Escapes.{Escapes}
use Rattle.rpl_encode.specs.declared.escapes.Kind.{Kind}
use Rattle.rpl_encode.specs.declared.escapes.Kind.TheVariants.{Plain, Kept, Long}

-- the string ends with what stands for the line, and the places tell where in it what stands for each byte begins, and
-- where that for the last ends
pub record AreKept (line string places : List ℕ) : Type 0 where
  pub ends : drop (get_or places 0 0) string ≡ escape line
  pub enough : length line < length places
  pub each : (i : ℕ) → i ≤ length line → get_or places i 0 + length (escape (drop i line)) ≡ length string

abbrev pub AreBy : List ℕ → List ℕ → List ℕ → Kind → Type 0
AreBy line string places Plain = is_plain line ≡ true
AreBy line string places Kept = AreKept line string places
AreBy line string places Long = Unit {0}

-- they are those of this line
abbrev pub AreOf : List ℕ → Escapes → Type 0
AreOf line e = AreBy line e.string.items e.places.items e.kind

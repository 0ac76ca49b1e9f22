-- The answer that is kept of a line.
use Rattle.std.specs.Prelude.{ℕ, ◌≡◌, ◌<◌, ◌≤◌, Bool, true, false, List, Some, None, length, chars, string_bytes}
use Rattle.rpl_core.specs.Forest.{Forest, flat}
use Rattle.rpl_core.specs.Instr.{Instr}
use Rattle.rpl_core.specs.Meaning.{Outcome}
use Rattle.rpl_core.specs.Run.{Answer, Matched, Failed, Unfinished, run}
use Rattle.rpl_core.specs.declared.caught.Caught.{Caught}
use Rattle.rpl_encode.specs.Answer.{IgnoresTrees, answer, max_answer_bytes}
use Rattle.rpl_encode.specs.Print.{found, placed, print}
use Rattle.rpl_encode.specs.declared.style.Style.{Style}
use Rattle.rpl_text.specs.Places.{at}
use Rattle.rpl_machine.specs.Shown.{captures_of, CapturesIn}
use Rattle.rosie_run.specs.Made.{IsMade}
use Rattle.rosie_run.specs.Report.{Piece}
use Rattle.rosie_run.specs.declared.line_job.InputLine.{InputLine}
use Rattle.rosie_run.specs.declared.mark.Mark.{Mark}
use Rattle.rosie_jobs.specs.Lines.{budget_of, is_over, steps_made, matches, ran_piece}
use Rattle.rosie_words.specs.declared.settings.Settings.{Settings}
use Rattle.rosie_jobs.specs.declared.texts.Texts.{Texts}

-- the text is kept, or it is too long
abbrev pub Printed : Bool → List ℕ → List ℕ → Type 0
Printed true text kept = (kept ≡ text) × (length text ≤ max_answer_bytes)
Printed false text kept = max_answer_bytes < length text

-- the texts of a line's piece are made
abbrev pub HasMade : Mark → Texts → Piece → Type 0
HasMade mark texts p = IsMade mark texts.answer (string_bytes texts.told) p

-- the piece of a line, by what the run of a program on it comes to
abbrev pub piece_of : Settings → InputLine → Outcome → Answer → Piece
piece_of s l o a = ran_piece s l.file.now l.number l.text.now o a

-- the answer to a line where it matched with these trees
abbrev pub answer_with : Settings → List ℕ → Forest → List ℕ
answer_with s line f = answer s.style line (Some (placed (at (chars line)) f))

-- what is printed of a match depends on its trees
abbrev pub NeedsTrees : Style → Type 0
NeedsTrees style = IgnoresTrees style → ⊥

-- under these texts the captures are those of the trees, and they stand in the line
abbrev pub Catches : List Caught → List (List ℕ) → List ℕ → Forest → Type 0
Catches captures texts line f =
    (captures_of (chars line) texts captures ≡ flat f) × CapturesIn (chars line) captures

-- the outcome is what a run within its budget shows: its trees, if it matched
abbrev pub IsShown : Answer → Outcome → Type 0
IsShown (Matched n i cs) o = (f : Forest) × (found o ≡ Some f) × (cs ≡ flat f) × (matches o ≡ true)
IsShown (Failed n) o = (found o ≡ None) × (matches o ≡ false)
IsShown Unfinished o = Unit {0}

-- a run within its budget that comes to the outcome: whether it matches, its answer, and the steps that it made
pub record Finds (s : Settings) (code : List Instr) (o : Outcome) (line text : List ℕ) (hit : Bool)
    (steps : ℕ) : Type 0 where
  pub within : is_over (run code (chars line) (budget_of s (chars line))) ≡ false
  pub matches : matches o ≡ hit
  pub prints : text ≡ print s.style (chars line) o
  pub cost : steps ≡ steps_made (budget_of s (chars line)) (run code (chars line) (budget_of s (chars line)))

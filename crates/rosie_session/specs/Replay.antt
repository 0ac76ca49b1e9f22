-- What a session answers: each line is a command, and its answer depends on what is kept by then.
use Rattle.std.specs.Prelude.{ℕ, ◌+◌, false, nat_lt, if◌then◌else◌, List, [], ◌∷◌, ◌++◌, length, map, codes}
use Rattle.std.specs.Prelude.{Option, Some, None, Ok, Err, flat_map}
use Rattle.std.specs.Fmt.{decimal}
use Rattle.std.specs.Str.{is_utf8}
use Rattle.rosie_io.specs.Lines.{lines}
use Rattle.rosie_jobs.specs.Lines.{Job, match_makes}
use Rattle.rosie_words.specs.declared.settings.Settings.{Settings}
use Rattle.rosie_prepare.specs.Prepared.{OrLine}
use Rattle.rosie_repl.specs.Edits.{Edit, Pattern, Try, Undo, edit_of, in_chars}
use Rattle.rosie_repl.specs.Session.{Session, begun, changed, undone}
use Rattle.rosie_run.specs.Lines.{line_fault}
use Rattle.rosie_run.specs.Report.{Piece, fault_piece}
use Rattle.rosie_run.specs.declared.mark.Mark.{Mark}
use Rattle.rosie_run.specs.declared.mark.Mark.TheVariants.{Miss}
use Rattle.rpl_encode.specs.declared.style.Style.TheVariants.{Json}
use Rattle.rosie_session.specs.Loading.{Load, Loading}

-- what a line writes, the session after it, and the paths that were asked for
pub record Turn : Type 0 where
  pub piece : Piece
  pub session : Session
  pub asked : List (List ℕ)

-- what is wrong with the line of this number
abbrev pub session_fault : ℕ → List ℕ → List ℕ
session_fault n text = line_fault (codes "(session)") n text

-- the reply to an accepted command says how many texts are kept then
abbrev pub ok_piece : Session → Piece
ok_piece s =
    record { out = codes "ok " ++ (decimal (length s.now.texts) ++ codes "\n"); err = []; mark = Miss; cost = 0 }

abbrev pub accepted : Session → List (List ℕ) → Turn
accepted s asked = record { piece = ok_piece s; session = s; asked = asked }

-- a command that isn't accepted changes nothing
abbrev pub refused : Session → List (List ℕ) → List ℕ → Turn
refused s asked text = record { piece = fault_piece text; session = s; asked = asked }

-- ---- changes

-- the session before and after a change, which stands where loading has no fault
abbrev pub judged_by : {A : Type 0} → Session → Session → List (List ℕ) → OrLine A → Turn
judged_by before after asked (Ok a) = accepted after asked
judged_by before after asked (Err line) = refused before asked line

abbrev pub judged : {A : Type 0} → Session → Session → Load A → Turn
judged before after l = judged_by before after l.asked l.answer

-- a new pattern is loaded with the texts; of any other change the texts alone are
abbrev pub load_turn : Loading → Edit → Session → Session → Turn
load_turn w (Pattern text) before after = judged before after (w.goal after.now.texts text)
load_turn w _ before after = judged before after (w.texts after.now.texts)

-- a number that is no text's makes no command
abbrev pub change_turn : Loading → ℕ → Session → Edit → Option Session → Turn
change_turn w n s e None = refused s [] (session_fault n (codes "bad command"))
change_turn w n s e (Some after) = load_turn w e s after

abbrev pub undo_turn : ℕ → Session → Option Session → Turn
undo_turn n s None = refused s [] (session_fault n (codes "nothing to undo"))
undo_turn n s (Some before) = accepted before []

-- ---- a line that is tried

-- it is printed as JSON, within the budget of a line
abbrev pub plain : Settings
plain = record { style = Json; whole = false; all = false; steps = false; budget = None }

-- that it doesn't match is reported
abbrev pub out_or_no : Mark → List ℕ → List ℕ
out_or_no Miss out = codes "no\n"
out_or_no _ out = out

abbrev pub or_no : Piece → Piece
or_no p = record { out = out_or_no p.mark p.out; err = p.err; mark = p.mark; cost = p.cost }

abbrev pub job_piece : Job → ℕ → List ℕ → Piece
job_piece job n line = or_no (match_makes plain job (codes "(session)") n line)

abbrev pub tried_piece : ℕ → List ℕ → OrLine Job → Piece
tried_piece n line (Ok job) = job_piece job n line
tried_piece n line (Err text) = fault_piece text

abbrev pub try_turn : Loading → ℕ → Session → Option (List ℕ) → List ℕ → Turn
try_turn w n s None line = refused s [] (session_fault n (codes "no pattern"))
try_turn w n s (Some pattern) line = record {
  piece = tried_piece n line (w.goal s.now.texts pattern).answer;
  session = s;
  asked = (w.goal s.now.texts pattern).asked;
}

-- ---- lines

abbrev pub edit_turn : Loading → ℕ → Session → Option Edit → Turn
edit_turn w n s None = refused s [] (session_fault n (codes "bad command"))
edit_turn w n s (Some (Try line)) = try_turn w n s s.now.pattern line
edit_turn w n s (Some Undo) = undo_turn n s (undone s)
edit_turn w n s (Some e) = change_turn w n s (in_chars e) (changed (in_chars e) s)

-- the most bytes that a line of a session may have
abbrev pub max_command_bytes : ℕ
max_command_bytes = 1048576

-- the line with the number n: it may be too long, or no text
unfoldable pub turn : Loading → ℕ → Session → List ℕ → Turn
turn w n s line =
    if nat_lt max_command_bytes (length line) then refused s [] (session_fault n (codes "line too long"))
    else (if is_utf8 line then edit_turn w n s (edit_of line) else refused s [] (session_fault n (codes "not UTF-8")))

-- lines in turn, of which n others come before
unfoldable pub turns_from : Loading → ℕ → Session → List (List ℕ) → List Turn
turns_from w n s [] = []
turns_from w n s (line ∷ more) = turn w (n + 1) s line ∷ turns_from w (n + 1) (turn w (n + 1) s line).session more

-- A session over an input: its turns, and their pieces.
abbrev pub turns : Loading → List ℕ → List Turn
turns w input = turns_from w 0 begun (lines false input)

abbrev pub pieces_of : List Turn → List Piece
pieces_of ts = map (λ t. t.piece) ts

-- all the paths that were asked for
abbrev pub asked_by : List Turn → List (List ℕ)
asked_by ts = flat_map (λ t. t.asked) ts

abbrev pub replay : Loading → List ℕ → List Piece
replay w input = pieces_of (turns w input)

abbrev pub asked_in : Loading → List ℕ → List (List ℕ)
asked_in w input = asked_by (turns w input)

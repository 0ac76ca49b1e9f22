-- The lines of a session as pieces: which are to come, what is made of a line, and what a run over them leaves.
use Rattle.std.specs.Prelude.{◌≡◌, ◌+◌, ◌++◌, ◌⊎◌, ℕ, false, List, [], length, Option, Some, None, Result, Ok, Err}
use Rattle.std.specs.Prelude.{codes}
use Rattle.std.specs.Prelude.{encode_utf8_all, string_bytes}
use Rattle.std.proofs.Math.Path.{refl, sym}
use Rattle.std.proofs.lemmas.List.{append-nil}
use Rattle.rosie_io.specs.Answering.{Keeps}
use Rattle.rosie_io.specs.Ending.{Knows}
use Rattle.rosie_io.specs.Gathering.{left}
use Rattle.rosie_io.specs.Lines.{lines}
use Rattle.rosie_io.specs.declared.outside.Source.{Ghosts}
use Rattle.rosie_io.specs.declared.reader.Line.{Line}
use Rattle.rosie_io.specs.declared.reader.Line.TheVariants as L
use Rattle.rosie_io.specs.declared.reader.LineFault.{LineFault}
use Rattle.rosie_prepare.specs.Prepared.{Tree}
use Rattle.rosie_repl.specs.Edits.{edit_of}
use Rattle.rosie_repl.specs.Session.{Session}
use Rattle.rosie_repl.specs.States.{session_of}
use Rattle.rosie_run.specs.Going.{AtEnd, CutBy, Going, How, WantsMemory}
use Rattle.rosie_run.specs.Lines.{input_fault}
use Rattle.rosie_run.specs.Made.{IsMade}
use Rattle.rosie_run.specs.Report.{Piece}
use Rattle.rosie_run.specs.Sources.{Moment, NoFewer, RoseIn, Still, moment_of}
use Rattle.rosie_run.specs.declared.ended.Ended.{Ended}
use Rattle.rosie_run.specs.declared.ended.Ended.TheVariants as E
use Rattle.rosie_io.specs.declared.stop.ReadStop.{ReadStop}
use Rattle.rosie_io.specs.declared.stop.ReadStop.TheVariants.{ReadFault}
use Rattle.rosie_run.specs.declared.mark.Mark.{Mark}
use Rattle.rosie_run.specs.declared.tool.Tool.TheVariants.{Rosie}
use Rattle.rosie_run.specs.FromLines.{LeavesBy, Since, begins_since}
use Rattle.rosie_run.specs.Passing.{SaysFault}
use Rattle.rpl_package.specs.Asking.{EndsWith, IsTold}
use Rattle.rosie_session.specs.Asked.{AsksTurns}
use Rattle.rosie_session.specs.Loading.{IsLoading, Loading}
use Rattle.rosie_session.specs.Replay.{Turn, asked_by, edit_turn, pieces_of, turns_from, max_command_bytes}
use Rattle.rosie_session.specs.declared.run.SessionMemory.{SessionMemory}
use Rattle.rosie_session.specs.declared.run.SessionLines.{SessionLines}
use Rattle.rosie_session.specs.inside.Turning.{AsksFront, OfTurn}

-- over the same files and the same input as before, with the same things kept
abbrev pub SameSession : {F I : Type 0} → SessionLines F I → SessionLines F I → Type 0
SameSession a b =
    (b.kept.ghost_name ≡ a.kept.ghost_name) × (b.files.ghost_name ≡ a.files.ghost_name)
    × (b.input.ghost_name ≡ a.input.ghost_name) × (b.folders.now ≡ a.folders.now)

-- what is read from, by what is kept of a file that wasn't read
abbrev pub name_of : Option (List ℕ) → List ℕ
name_of None = codes "-"
name_of (Some path) = encode_utf8_all path

-- no file failed, and it is made ready to say that a read of the input failed
pub record IsPrepared (k : SessionMemory) : Type 0 where
  pub unread : k.unread ≡ None
  pub read_failed : string_bytes k.read_failed ≡ input_fault (codes "-") (codes "read failed")

-- there may be a line
pub record GoesOnFrom {F I : Type 0} (s : SessionLines F I) : Type 0 where
  pub opened : s.kept.now.reader.done ≡ false
  pub parts : s.kept.now.reader.whole ≡ false
  pub most : s.kept.now.reader.most ≡ max_command_bytes
  pub prepared : IsPrepared s.kept.now

-- ---- the pieces to come

-- what is left, as turns
abbrev pub to_come : Loading → ℕ → Session → List ℕ → List Turn
to_come w n s left0 = turns_from w n s (lines false left0)

abbrev pub turns_left : {F I : Type 0} → Ghosts I → Loading → SessionLines F I → List Turn
turns_left I w s =
    to_come w s.kept.now.reader.number (session_of s.kept.now.state) (left s.kept.now.reader.held (I.rest s.input.now))

-- by the loading over these files, where the input tells, and the files tell or no line to come asks for a path
pub record IsOver {F I : Type 0} (G : Ghosts F) (H : Ghosts I) (w : Loading) (s : SessionLines F I) : Type 0 where
  pub input : H.tells
  pub loads : IsLoading (G.tree s.files.now) s.folders.now w
  pub told : IsTold G.tells (asked_by (turns_left H w s))

pub record ComesFrom {F I : Type 0} (G : Ghosts F) (H : Ghosts I) (s : SessionLines F I) (ps : List Piece) :
    Type 0 where
  pub loading : Loading
  pub over : IsOver G H loading s
  pub is : ps ≡ pieces_of (turns_left H loading s)

-- ---- what is made of a line

-- the piece of this turn, and the session after it; or reading ended the run, and nothing was run
abbrev pub MakesTurn : Result (Option Mark) Ended → Turn → Session → List ℕ → List ℕ → ℕ → ℕ → Type 0
MakesTurn (Ok (Some mark)) t s1 out err steps0 steps1 =
    IsMade mark out err t.piece × (s1 ≡ t.session) × (steps1 ≡ steps0 + t.piece.cost)
MakesTurn (Err E.NoMemory) t s1 out err steps0 steps1 = Unit {0}
MakesTurn (Err (E.Cut why text)) t s1 out err steps0 steps1 = steps1 ≡ steps0
MakesTurn _ t s1 out err steps0 steps1 = ⊥

-- by the answer of the reader, with the number and the text of its line
abbrev pub MakesOf : (files : Type 0) → Tree → (folders : List (List ℕ)) → Result Line LineFault
    → Result (Option Mark) Ended → (n : ℕ) → (line : List ℕ) → Session → Session → List ℕ → List ℕ → ℕ → ℕ → Type 0
MakesOf files tree folders (Ok L.Text) result n line s0 s1 out err steps0 steps1 =
    OfTurn files tree folders (λ w. edit_turn w n s0 (edit_of line)) (λ t. MakesTurn result t s1 out err steps0 steps1)
MakesOf files tree folders (Ok L.End) result n line s0 s1 out err steps0 steps1 =
    (result ≡ Ok None) × (steps1 ≡ steps0)
MakesOf files tree folders (Err fault) result n line s0 s1 out err steps0 steps1 =
    SaysFault fault result Rosie (codes "(session)") out err steps0 steps1 × (s1 ≡ s0)

-- ---- the files

-- a file wasn't read
abbrev pub IsUnread : Option (List ℕ) → Type 0
IsUnread None = ⊥
IsUnread (Some path) = Unit {0}

-- the counts of the files, which only a line of text reads
abbrev pub TextFiles : Result (Option Mark) Ended → Option (List ℕ) → Moment → Moment → Type 0
TextFiles (Ok (Some mark)) unread f0 f1 = Still f0 f1
TextFiles (Err E.NoMemory) unread f0 f1 = NoFewer f0 f1
TextFiles (Err (E.Cut why text)) unread f0 f1 = (why ≡ ReadFault) × NoFewer f0 f1 × RoseIn f0 f1 × IsUnread unread
TextFiles _ unread f0 f1 = ⊥

abbrev pub FilesOf : Result Line LineFault → Result (Option Mark) Ended → Option (List ℕ) → Moment → Moment → Type 0
FilesOf (Ok L.Text) result unread f0 f1 = TextFiles result unread f0 f1
FilesOf (Ok L.End) result unread f0 f1 = Still f0 f1
FilesOf (Err fault) result unread f0 f1 = Still f0 f1 × (unread ≡ None)

-- of the turn in which reading ended the run, `last` is asked for: up to the file that wasn't read, or nothing where it
-- was the standard input
abbrev pub StopsBy : ReadStop → Option (List ℕ) → (last : List (List ℕ)) → Type 0
StopsBy why None last = last ≡ []
StopsBy why (Some path) last = (why ≡ ReadFault) × EndsWith (encode_utf8_all path) last

-- a front of the paths of a turn is asked for, where the run ended
abbrev pub AsksEnd : Ended → Option (List ℕ) → (all asked0 asked1 : List (List ℕ)) → Type 0
AsksEnd (E.Cut why text) unread all asked0 asked1 = AsksFront all asked0 asked1 (StopsBy why unread)
AsksEnd _ unread all asked0 asked1 = AsksFront all asked0 asked1 (λ last. Unit {0})

abbrev pub AsksTurn : Result (Option Mark) Ended → Option (List ℕ) → (all asked0 asked1 : List (List ℕ)) → Type 0
AsksTurn (Ok mark) unread all asked0 asked1 = asked1 ≡ asked0 ++ all
AsksTurn (Err ended) unread all asked0 asked1 = AsksEnd ended unread all asked0 asked1

-- by the answer of the reader: only a line of text asks for paths
abbrev pub AsksOf : (files : Type 0) → Tree → (folders : List (List ℕ)) → Result Line LineFault
    → Result (Option Mark) Ended → (n : ℕ) → (line : List ℕ) → Session → Option (List ℕ)
    → (asked0 asked1 : List (List ℕ)) → Type 0
AsksOf files tree folders (Ok L.Text) result n line s0 unread asked0 asked1 =
    OfTurn files tree folders (λ w. edit_turn w n s0 (edit_of line)) (λ t. AsksTurn result unread t.asked asked0 asked1)
AsksOf files tree folders _ result n line s0 unread asked0 asked1 = asked1 ≡ asked0

-- ---- what a run over the lines leaves

-- which paths the turns asked for, by how far the run came: k of `all` were passed, and where it goes on, `rest` are to
-- come
abbrev pub AsksHow : How → (all rest : List Turn) → (asked0 asked1 : List (List ℕ)) → Option (List ℕ) → ℕ → Type 0
AsksHow Going all rest asked0 asked1 unread k =
    (done : List Turn) × (all ≡ done ++ rest) × (length done ≡ k) × (asked1 ≡ asked0 ++ asked_by done)
AsksHow AtEnd all rest asked0 asked1 unread k = asked1 ≡ asked0 ++ asked_by all
AsksHow WantsMemory all rest asked0 asked1 unread k = (last : List (List ℕ)) × AsksTurns all asked0 asked1 k last
AsksHow (CutBy why) all rest asked0 asked1 unread k =
    (last : List (List ℕ)) × StopsBy why unread last × AsksTurns all asked0 asked1 k last

-- a file wasn't read
pub record InLoad {F I : Type 0} (G : Ghosts F) (H : Ghosts I) (s z : SessionLines F I) : Type 0 where
  pub faults : H.faults z.input.now ≡ H.faults s.input.now
  pub fewer : NoFewer (moment_of G s.files.now) (moment_of G z.files.now)
  pub rose : RoseIn (moment_of G s.files.now) (moment_of G z.files.now)
  pub unread : IsUnread z.kept.now.unread

abbrev pub LeavesHow : {F I : Type 0} → How → Ghosts F → Ghosts I → SessionLines F I → SessionLines F I → ℕ → Type 0
LeavesHow Going G H s z k =
    Since H s.kept.now.reader z.kept.now.reader s.input.now z.input.now k
    × Still (moment_of G s.files.now) (moment_of G z.files.now)
LeavesHow AtEnd G H s z k =
    LeavesBy AtEnd H s.kept.now.reader z.kept.now.reader s.input.now z.input.now k
    × Still (moment_of G s.files.now) (moment_of G z.files.now)
LeavesHow WantsMemory G H s z k =
    (H.faults z.input.now ≡ H.faults s.input.now) × NoFewer (moment_of G s.files.now) (moment_of G z.files.now)
LeavesHow (CutBy why) G H s z k =
    (LeavesBy (CutBy why) H s.kept.now.reader z.kept.now.reader s.input.now z.input.now k
    × Still (moment_of G s.files.now) (moment_of G z.files.now) × (z.kept.now.unread ≡ None))
    ⊎ ((why ≡ ReadFault) × InLoad G H s z)

-- what stays, and what is left by how far it came
pub record LeavesSession {F I : Type 0} (G : Ghosts F) (H : Ghosts I) (how : How) (s z : SessionLines F I) (k : ℕ)
    : Type 0 where
  pub keeps : Keeps s.kept.now.reader z.kept.now.reader
  pub folders : z.folders.now ≡ s.folders.now
  pub tree : G.tree z.files.now ≡ G.tree s.files.now
  pub opens : H.failed_opens z.input.now ≡ H.failed_opens s.input.now
  -- nothing is read after the end of the input, if the reader knows of it
  pub past_end : Knows s.kept.now.reader.held.ended (H.ended s.input.now)
      → H.asked z.input.now ≡ H.asked s.input.now
  pub knows : Knows s.kept.now.reader.held.ended (H.ended s.input.now)
      → Knows z.kept.now.reader.held.ended (H.ended z.input.now)
  pub leaves : LeavesHow how G H s z k
  pub asks : (w : Loading) → IsOver G H w s → AsksHow how (turns_left H w s) (turns_left H w z)
      (G.asked s.files.now) (G.asked z.files.now) z.kept.now.unread k

-- nothing is left where it begins
pub begins_session : {F I : Type 0} (G : Ghosts F) (H : Ghosts I) (s : SessionLines F I) → LeavesSession G H Going s s 0
begins_session G H s = record {
  keeps = record { whole = refl; most = refl };
  folders = refl;
  tree = refl;
  opens = refl;
  past_end = λ _. refl;
  knows = λ k. k;
  leaves = (begins_since H s.kept.now.reader s.input.now, record { faults = refl; opens = refl });
  asks = λ w _. ([], refl, refl, sym (append-nil (G.asked s.files.now)));
}

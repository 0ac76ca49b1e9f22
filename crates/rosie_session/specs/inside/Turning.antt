-- What comes of one line of a session.
use Rattle.std.specs.Prelude.{◌≡◌, ◌+◌, ◌++◌, ℕ, List, Some, Result, Ok, Err, encode_utf8_all, string_bytes}
use Rattle.rosie_io.specs.Loading.{NotFewer}
use Rattle.rosie_io.specs.declared.outside.Source.{Ghosts}
use Rattle.rosie_jobs.specs.Jobs.{matcher_of}
use Rattle.rosie_jobs.specs.Lines.{Job}
use Rattle.rosie_jobs.specs.Makers.{Matches}
use Rattle.rosie_jobs.specs.declared.match_job.MatchJob.{MatchJob}
use Rattle.rosie_prepare.specs.Answers.{IsDue}
use Rattle.rosie_prepare.specs.Prepared.{OrLine, Tree}
use Rattle.rosie_run.specs.declared.unready.Unready.{Unready}
use Rattle.rosie_run.specs.declared.unready.Unready.TheVariants as U
use Rattle.rosie_repl.specs.Edits.{Edit}
use Rattle.rosie_repl.specs.Session.{Session, changed}
use Rattle.rosie_run.specs.Made.{IsMade}
use Rattle.rosie_run.specs.Report.{Piece, fault_piece}
use Rattle.rosie_run.specs.Sources.{Moment, NoFewer, RoseIn, Still, moment_of}
use Rattle.rpl_package.specs.Asking.{EndsWith, IsFront, IsTold}
use Rattle.rosie_session.specs.Loading.{IsLoading, Load, Loading}
use Rattle.rosie_session.specs.Replay.{Turn, change_turn, load_turn, ok_piece, plain}
use Rattle.rosie_session.specs.declared.session_end.SessionEnd.{SessionEnd}
use Rattle.rosie_session.specs.declared.session_end.SessionEnd.TheVariants as H
use Rattle.rosie_session.specs.declared.reply.Reply.{Reply}

-- it holds of what this load comes to over these files, where they tell or it asks for no path
abbrev pub OfLoad :
    {A : Type 0} → (files : Type 0) → Tree → (folders : List (List ℕ)) → (Loading → Load A) → (Load A → Type 0) → Type 0
OfLoad files tree folders load Holds =
    (w : Loading) → IsLoading tree folders w → IsTold files (load w).asked → Holds (load w)

-- and so of this turn
abbrev pub OfTurn :
    (files : Type 0) → Tree → (folders : List (List ℕ)) → (Loading → Turn) → (Turn → Type 0) → Type 0
OfTurn files tree folders turn Holds =
    (w : Loading) → IsLoading tree folders w → IsTold files (turn w).asked → Holds (turn w)

-- and of the turn of a change that was made, whatever the session was before it
abbrev pub OfMade :
    (files : Type 0) → Tree → (folders : List (List ℕ)) → Edit → (made : Session) → (Turn → Type 0) → Type 0
OfMade files tree folders e made Holds =
    (before : Session) → changed e before ≡ Some made → OfTurn files tree folders (λ w. load_turn w e before made) Holds

-- the texts and the mark are those of the piece
abbrev pub IsReply : Reply → Piece → Type 0
IsReply s p = IsMade s.mark s.out.items s.err.items p

-- the job is the one that is due, or a line is
abbrev pub GivesJob : Result MatchJob Unready → OrLine Job → Type 0
GivesJob (Ok j) answer = (job : Job) × (answer ≡ Ok job) × (matcher_of j ≡ Matches plain job)
GivesJob (Err u) answer = IsDue u answer

-- no file is why
abbrev pub IsOwn : Unready → Type 0
IsOwn (U.ReadFault path) = ⊥
IsOwn _ = Unit {0}

-- what loading says of a change: it stands, or the session stays as it was before
abbrev pub JudgesEnd : Unready → Turn → Session → Type 0
JudgesEnd U.NoMemory t before = Unit {0}
JudgesEnd (U.Refused line) t before = (t.piece ≡ fault_piece (string_bytes line)) × (t.session ≡ before)
JudgesEnd (U.ReadFault path) t before = Unit {0}

abbrev pub Judges : {A : Type 0} → Result A Unready → Turn → Session → Session → Type 0
Judges (Ok a) t before after = (t.piece ≡ ok_piece after) × (t.session ≡ after)
Judges (Err u) t before after = JudgesEnd u t before

-- what is said, and the session after it
abbrev pub Says : Reply → Turn → Session → Type 0
Says reply t now = IsReply reply t.piece × (now ≡ t.session)

abbrev pub Turns : Result Reply SessionEnd → Turn → Session → Type 0
Turns (Ok reply) t now = Says reply t now
Turns (Err session_end) t now = Unit {0}

-- a front of these paths was asked for, and it is one of which this holds
pub record AsksFront (all asked0 asked1 : List (List ℕ)) (Holds : List (List ℕ) → Type 0) : Type 0 where
  pub last : List (List ℕ)
  pub front : IsFront last all
  pub asked : asked1 ≡ asked0 ++ last
  pub holds : Holds last

-- all the paths of a turn were asked for, or, where nothing is said, a front of them, which ends with the file that
-- wasn't read
abbrev pub Asks : Result Reply SessionEnd → (all asked0 asked1 : List (List ℕ)) → Type 0
Asks (Ok reply) all asked0 asked1 = asked1 ≡ asked0 ++ all
Asks (Err H.NoMemory) all asked0 asked1 = AsksFront all asked0 asked1 (λ last. Unit {0})
Asks (Err (H.Unread path)) all asked0 asked1 = AsksFront all asked0 asked1 (EndsWith (encode_utf8_all path))

-- a change comes to this
abbrev pub change_of : Loading → ℕ → Session → Edit → Turn
change_of w n s e = change_turn w n s e (changed e s)

-- the steps that were made
abbrev pub EndSteps : SessionEnd → ℕ → ℕ → Type 0
EndSteps H.NoMemory before now = Unit {0}
EndSteps (H.Unread path) before now = now ≡ before

abbrev pub StepsBy : Result Reply SessionEnd → Turn → ℕ → ℕ → Type 0
StepsBy (Ok reply) t before now = now ≡ before + t.piece.cost
StepsBy (Err session_end) t before now = EndSteps session_end before now

-- the counts of the files: a read failed only where one of them rose
abbrev pub EndFiles : SessionEnd → Moment → Moment → Type 0
EndFiles H.NoMemory f0 f1 = NoFewer f0 f1
EndFiles (H.Unread path) f0 f1 = NoFewer f0 f1 × RoseIn f0 f1

abbrev pub FilesBy : {A : Type 0} → Result A SessionEnd → Moment → Moment → Type 0
FilesBy (Ok a) f0 f1 = Still f0 f1
FilesBy (Err session_end) f0 f1 = EndFiles session_end f0 f1

-- What a turn leaves of the files, which are only read: a read failed only where a count of failures rose.
pub record Leaves {F : Type 0} (S : Ghosts F) (result : Result Reply SessionEnd) (old new : F) : Type 0 where
  pub cause : FilesBy result (moment_of S old) (moment_of S new)
  pub taken : NotFewer (S.taken old) (S.taken new)
  pub tree : S.tree new ≡ S.tree old

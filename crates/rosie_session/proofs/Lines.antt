-- What comes of the next line, case by case.
use Rattle.std.proofs.Common.{ℕ, ◌≡◌, ◌+◌, ◌<◌, ◌≤◌, Bool, true, false, List, [], ◌∷◌, ◌++◌, length, refl, sym, ◌∙◌, ap}
use Rattle.std.proofs.Common.{subst, arith, Result, Ok, Err, Option, Some, None}
use Rattle.std.specs.Prelude.{IsErrAnd, codes, nat_lt}
use Rattle.std.specs.Str.{is_utf8}
use Rattle.rosie_io.specs.Answering.{Numbers, Passes}
use Rattle.rosie_io.specs.Gathering.{Splits}
use Rattle.rosie_io.specs.Lines.{lines}
use Rattle.rosie_io.specs.Reader.{Reader}
use Rattle.rosie_io.specs.declared.reader.Line.{Line}
use Rattle.rosie_io.specs.declared.reader.Line.TheVariants as L
use Rattle.rosie_io.specs.declared.reader.LineFault.{LineFault}
use Rattle.rosie_io.specs.declared.reader.LineFault.TheVariants as F
use Rattle.rosie_prepare.specs.Prepared.{Tree}
use Rattle.rosie_repl.specs.Edits.{edit_of}
use Rattle.rosie_repl.specs.Session.{Session}
use Rattle.rosie_run.specs.Going.{Gives, ReadsOn}
use Rattle.rosie_run.specs.Made.{IsMade}
use Rattle.rosie_run.specs.Report.{Piece, fault_piece}
use Rattle.rosie_run.specs.declared.ended.Ended.{Ended}
use Rattle.rosie_run.specs.declared.ended.Ended.TheVariants as E
use Rattle.rosie_io.specs.declared.stop.ReadStop.TheVariants as Y
use Rattle.rosie_run.specs.declared.mark.Mark.{Mark}
use Rattle.rosie_run.specs.Passing.{IsStop, IsStopOrMemory, MakesPiece}
use Rattle.rosie_run.proofs.Onward.{lines_none}
use Rattle.std.proofs.lemmas.List.{append-nil}
use Rattle.rosie_run.specs.Sources.{Moment}
use Rattle.rpl_package.specs.Asking.{IsTold}
use Rattle.rosie_session.specs.Asked.{of_next}
use Rattle.rosie_session.specs.Loading.{IsLoading, Loading}
use Rattle.rosie_session.specs.Replay.{Turn, asked_by, edit_turn, pieces_of, refused, session_fault, turn, turns_from}
use Rattle.rosie_session.specs.inside.Passing.{AsksEnd, AsksOf, AsksTurn, FilesOf, MakesOf, MakesTurn, StopsBy}
use Rattle.rosie_session.specs.inside.Passing.{to_come}
use Rattle.rosie_session.specs.inside.Turning.{AsksFront}
use Rattle.rosie_session.proofs.Sessions.{by_tests, turn_by}
use Rattle.rosie_session.proofs.Told.{told_left, turns_next, turns_none}

module _ (w : Loading) (n : ℕ) (s : Session) (line : List ℕ) where
  tested : (long text : Bool) → nat_lt 1048576 (length line) ≡ long → is_utf8 line ≡ text
      → turn w n s line ≡ by_tests w n s (edit_of line) long text
  tested long text e f =
      turn_by w n s line ∙ ap (λ b. by_tests w n s (edit_of line) b (is_utf8 line)) e
      ∙ ap (λ b. by_tests w n s (edit_of line) long b) f

  pub turn_text : length line ≤ 1048576 → is_utf8 line ≡ true → turn w n s line ≡ edit_turn w n s (edit_of line)
  turn_text h u = tested false true (grind (arith, h)) u

  pub turn_long : 1048576 < length line → turn w n s line ≡ refused s [] (session_fault n (codes "line too long"))
  turn_long h = tested true (is_utf8 line) (grind (arith, h)) refl

  pub turn_no_text :
      length line ≤ 1048576 → is_utf8 line ≡ false
      → turn w n s line ≡ refused s [] (session_fault n (codes "not UTF-8"))
  turn_no_text h u = tested false false (grind (arith, h)) u

module _ (w : Loading) (old now : Reader) (s0 s1 : Session) (left0 left1 : List ℕ) (parts : old.whole ≡ false)
    (most : old.most ≡ 1048576) where
  -- the turns before the line, and after it
  abbrev pub before : List Turn
  before = to_come w old.number s0 left0

  abbrev pub after : List Turn
  after = to_come w now.number s1 left1

  abbrev pub OneTurn : Result (Option Mark) Ended → Option (List ℕ) → (asked0 asked1 : List (List ℕ)) → List ℕ
      → List ℕ → ℕ → ℕ → Type 0
  OneTurn (Ok (Some mark)) unread asked0 asked1 out err steps0 steps1 =
      (t : Turn) × (before ≡ t ∷ after) × IsMade mark out err t.piece × (steps1 ≡ steps0 + t.piece.cost)
      × (asked1 ≡ asked0 ++ t.asked)
  OneTurn (Ok None) unread asked0 asked1 out err steps0 steps1 =
      (before ≡ []) × (steps1 ≡ steps0) × (asked1 ≡ asked0)
  OneTurn (Err e) unread asked0 asked1 out err steps0 steps1 =
      ReadsOn e steps0 steps1 × AsksEnd e unread (of_next before) asked0 asked1

  -- the line with the next number has this turn
  module _ (line : List ℕ) (sp : Splits false now.held.ended line left0 left1) (t : Turn)
      (is : turn w (old.number + 1) s0 line ≡ t) where
    pub turn_next : now.number ≡ old.number + 1 → s1 ≡ t.session → before ≡ t ∷ after
    turn_next count session =
        turns_next w old.number now.number s0 s1 line (lines false left1) (lines false left0) sp.lines count
        (session ∙ ap (λ (x : Turn). x.session) (sym is)) ∙ ap (λ x. x ∷ after) is

    -- it comes first, whatever the session is after it
    pub turn_first : (later : List Turn) × (before ≡ t ∷ later)
    turn_first =
        let later = turns_from w (old.number + 1) t.session (lines false left1) in (
          later,
          turns_next w old.number (old.number + 1) s0 t.session line (lines false left1) (lines false left0) sp.lines
              refl
              (ap (λ (x : Turn). x.session) (sym is)) ∙ ap (λ x. x ∷ later) is,
        )

    -- and is told where all the lines to come are
    pub turn_told : (tells : Type 0) → IsTold tells (asked_by before) → IsTold tells t.asked
    turn_told tells told =
        let all : IsTold tells (t.asked ++ asked_by turn_first.0) =
        subst (λ ts. IsTold tells (asked_by ts)) turn_first.1 told in
        told_left tells t.asked (asked_by turn_first.0) all

  -- a line of text
  pub text_is : now.number ≡ old.number + 1 → length now.text ≤ old.most → is_utf8 now.text ≡ true
      → turn w (old.number + 1) s0 now.text ≡ edit_turn w now.number s0 (edit_of now.text)
  text_is count short u =
      let l = most in
      turn_text w (old.number + 1) s0 now.text (omega arith) u
      ∙ ap (λ k. edit_turn w k s0 (edit_of now.text)) (sym count)

  pub text_splits : Splits old.whole now.held.ended now.text left0 left1
      → Splits false now.held.ended now.text left0 left1
  text_splits sp = subst (λ b. Splits b now.held.ended now.text left0 left1) parts sp

  module _ (unread : Option (List ℕ)) (asked0 asked1 : List (List ℕ)) (out err : List ℕ) (steps0 steps1 : ℕ) where
    abbrev One : Result (Option Mark) Ended → Type 0
    One result = OneTurn result unread asked0 asked1 out err steps0 steps1

    -- no path was asked for
    none_asked : (Holds : List (List ℕ) → Type 0) → Holds [] → asked1 ≡ asked0
        → AsksFront (of_next before) asked0 asked1 Holds
    none_asked Holds holds same = record {
      last = [];
      front = (of_next before, refl);
      asked = same ∙ sym (append-nil asked0);
      holds = holds;
    }

    text_one : (result : Result (Option Mark) Ended) (t : Turn) → (s1 ≡ t.session → before ≡ t ∷ after)
        → (later : List Turn) × (before ≡ t ∷ later) → MakesTurn result t s1 out err steps0 steps1
        → AsksTurn result unread t.asked asked0 asked1 → One result
    text_one (Ok (Some mark)) t next first m a = (t, next m.1, m.0, m.2, a)
    text_one (Err E.NoMemory) t next first m a =
        (tt, subst (λ ts. AsksEnd E.NoMemory unread (of_next ts) asked0 asked1) (sym first.1) a)
    text_one (Err (E.Cut why text)) t next first m a =
        (m, subst (λ ts. AsksEnd (E.Cut why text) unread (of_next ts) asked0 asked1) (sym first.1) a)
    text_one _ t next first m a = absurd m

    fault_one : (result : Result (Option Mark) Ended) (text : List ℕ) → before ≡ refused s0 [] text ∷ after
        → MakesPiece result (fault_piece text) out err steps0 steps1 → asked1 ≡ asked0 → One result
    fault_one (Ok (Some mark)) text next m same = (refused s0 [] text, next, m.0, m.1, same ∙ sym (append-nil asked0))
    fault_one (Ok None) text next m same = absurd m
    fault_one (Err e) text next m same =
        subst (λ x. One (Err x)) (sym m) (tt, none_asked (λ last. Unit {0}) tt same)

    stop_one : (result : Result (Option Mark) Ended) (P : Ended → Type 0) → IsErrAnd result P → steps1 ≡ steps0
        → asked1 ≡ asked0 → unread ≡ None → One result
    stop_one (Ok found) P m still same input = absurd m
    stop_one (Err (E.Cut why text)) P m still same input =
        (still, none_asked (StopsBy why unread) (subst (λ o. StopsBy why o []) (sym input) refl) same)
    stop_one (Err _) P m still same input = (tt, none_asked (λ last. Unit {0}) tt same)

    pub one_turn : (files : Type 0) (tree : Tree) (folders : List (List ℕ)) (found : Result Line LineFault)
        (result : Result (Option Mark) Ended) (f0 f1 : Moment) → IsLoading tree folders w
        → IsTold files (asked_by before) → Numbers found old now → Passes found old now left0 left1
        → MakesOf files tree folders found result now.number now.text s0 s1 out err steps0 steps1
        → AsksOf files tree folders found result now.number now.text s0 unread asked0 asked1
        → FilesOf found result unread f0 f1
        → One result
    one_turn files tree folders (Ok L.Text) result f0 f1 is told n p m a f =
        let t = edit_turn w now.number s0 (edit_of now.text) in
        let sp = text_splits p.0 in
        let e = text_is n.0 p.1 p.2 in
        let here = turn_told now.text sp t e files told in
        text_one result t (turn_next now.text sp t e n.0) (turn_first now.text sp t e) (m w is here) (a w is here)
    one_turn files tree folders (Ok L.End) result f0 f1 is told n p m a f =
        subst One (sym m.0)
        (turns_none w old.number s0 (lines false left0) (ap (lines false) p.0 ∙ lines_none false), m.1, a)
    one_turn files tree folders (Err (F.TooLong k)) result f0 f1 is told n p m a f =
        let why = codes "line too long" in
        let sp = subst (λ b. Splits b now.held.ended p.0 left0 left1) parts p.1 in
        let l = most in
        let e = turn_long w (old.number + 1) s0 p.0 (omega (arith, p.2))
        ∙ ap (λ j. refused s0 [] (session_fault j why)) (sym (n.0 ∙ n.1)) in
        fault_one result (session_fault k why) (turn_next p.0 sp (refused s0 [] (session_fault k why)) e n.1 m.1) m.0 a
    one_turn files tree folders (Err (F.NotText k)) result f0 f1 is told n p m a f =
        let why = codes "not UTF-8" in
        let sp = subst (λ b. Splits b now.held.ended p.0 left0 left1) parts p.1 in
        let l = most in
        let e = turn_no_text w (old.number + 1) s0 p.0 (omega (arith, p.2)) p.3
        ∙ ap (λ j. refused s0 [] (session_fault j why)) (sym (n.0 ∙ n.1)) in
        fault_one result (session_fault k why) (turn_next p.0 sp (refused s0 [] (session_fault k why)) e n.1 m.1) m.0 a
    one_turn files tree folders (Err F.NoMemory) result f0 f1 is told n p m a f =
        subst One (sym m.0) (tt, none_asked (λ last. Unit {0}) tt a)
    one_turn files tree folders (Err (F.Stopped Y.ReadFault)) result f0 f1 is told n p m a f =
        stop_one result (IsStop Y.ReadFault) m.0.0 m.0.1 a f.1
    one_turn files tree folders (Err (F.Stopped Y.Spent)) result f0 f1 is told n p m a f =
        stop_one result (IsStopOrMemory Y.Spent) m.0.0 m.0.1 a f.1

    -- its piece is given
    pub gives_turn : (result : Result (Option Mark) Ended) (C : List Piece → Type 0)
        → ((t : Turn) → before ≡ t ∷ after → C (pieces_of after)) → One result
        → Gives result (pieces_of before) C out err steps0 steps1
    gives_turn (Ok (Some mark)) C f o =
        record {
          piece = o.0.piece;
          more = pieces_of after;
          is = ap pieces_of o.1;
          made = o.2;
          steps = o.3;
          comes = f o.0 o.1;
        }
    gives_turn (Ok None) C f o = (ap pieces_of o.0, o.1)
    gives_turn (Err e) C f o = o.0

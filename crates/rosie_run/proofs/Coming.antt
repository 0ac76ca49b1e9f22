-- What is made of the answer of a reader, for each answer.
use Rattle.std.proofs.Common.{ℕ, ◌≡◌, ◌+◌, false, true, List, [], ◌∷◌, Result, Ok, Err, Option, None, Some, refl, sym}
use Rattle.std.proofs.Common.{◌∙◌, ap, subst}
use Rattle.std.specs.Prelude.{IsErrAnd, String, codes}
use Rattle.rosie_io.specs.Answering.{HasCause, Numbers, Passes, Stops}
use Rattle.rosie_io.specs.Gathering.{Reads, Splits, left}
use Rattle.rosie_io.specs.Lines.{lines}
use Rattle.rosie_io.specs.Reader.{Reader}
use Rattle.rosie_io.specs.declared.outside.Source.{Ghosts}
use Rattle.rosie_io.specs.declared.reader.Line.{Line}
use Rattle.rosie_io.specs.declared.reader.Line.TheVariants as L
use Rattle.rosie_io.specs.declared.reader.LineFault.{LineFault}
use Rattle.rosie_io.specs.declared.reader.LineFault.TheVariants as F
use Rattle.rosie_run.specs.Going.{CutBy, Gives, OnPiece, ReadsOn, count_of, end_of, how_of}
use Rattle.rosie_run.specs.Lines.{Makes, line_message, line_piece, pieces_from}
use Rattle.rosie_run.specs.Parts.{whole_of}
use Rattle.rosie_run.specs.Report.{Piece, fault_piece}
use Rattle.rosie_run.specs.declared.ended.Ended.{Ended}
use Rattle.rosie_run.specs.declared.ended.Ended.TheVariants as E
use Rattle.rosie_io.specs.declared.stop.ReadStop.TheVariants as Y
use Rattle.rosie_run.specs.declared.lines.Reading.{Reading}
use Rattle.rosie_run.specs.declared.mark.Mark.{Mark}
use Rattle.rosie_run.specs.declared.tool.Tool.{Tool}
use Rattle.rosie_run.specs.FromLines.{LeavesBy, Since, reading_of, to_come}
use Rattle.rosie_run.specs.Passing.{IsStop, IsStopOrMemory, MakesOf, MakesPiece, kept_out}
use Rattle.rosie_run.proofs.FromLines.{past_next, since_next, stops_failed, stops_spent}
use Rattle.rosie_run.proofs.Onward.{lines_none, long_is, no_text_is, pieces_next, pieces_none, text_is}

-- what is known of the pieces after it, said otherwise
pub gives_to : (result : Result (Option Mark) Ended) (ps : List Piece) (C D : List Piece → Type 0) (out err :
    List ℕ) (s0 s1 : ℕ) (P : Type 0) → OnPiece result P → (P → (more : List Piece) → C more → D more)
    → Gives result ps C out err s0 s1 → Gives result ps D out err s0 s1
gives_to (Ok (Some mark)) ps C D out err s0 s1 P h f g = record {
  piece = g.piece;
  more = g.more;
  is = g.is;
  made = g.made;
  steps = g.steps;
  comes = f h g.more g.comes;
}
gives_to _ ps C D out err s0 s1 P h f g = g

-- where a message stands for the texts of the job, it is whole
pub kept_whole : {Z : Type 0} (fault : Option (String Z)) (text rest : List ℕ)
    → kept_out fault (whole_of text rest) ≡ whole_of (kept_out fault text) (kept_out fault rest)
kept_whole None text rest = refl
kept_whole (Some message) text rest = refl

-- what holds in any case holds where a piece was made
pub goes_some : (result : Result (Option Mark) Ended) (P : Type 0) → P → OnPiece result P
goes_some (Ok (Some mark)) P h = h
goes_some _ P h = tt

module _ (makes : Makes) (tool : Tool) (file : List ℕ) (old now : Reader) (left0 left1 out err : List ℕ) (s0 s1 :
    ℕ) where
  abbrev pub r : Reading
  r = reading_of tool old

  abbrev long : ℕ → Piece
  long n = fault_piece (line_message tool file n (codes "line too long"))

  abbrev no_text : ℕ → Piece
  no_text n = fault_piece (line_message tool file n (codes "not UTF-8"))

  abbrev pub first : List Piece
  first = to_come makes tool file old left0

  abbrev pub IsLater : List Piece → Type 0
  IsLater more = more ≡ pieces_from makes r file (old.number + 1) (lines old.whole left1)

  piece_gives : (result : Result (Option Mark) Ended) (line : List ℕ) (p : Piece)
      → Splits old.whole now.held.ended line left0 left1 → line_piece makes r file (old.number + 1) line ≡ p
      → MakesPiece result p out err s0 s1 → Gives result first IsLater out err s0 s1
  piece_gives (Ok (Some mark)) line p sp e m = record {
    piece = p;
    more = pieces_from makes r file (old.number + 1) (lines old.whole left1);
    is = pieces_next makes r file old.number line (lines old.whole left1) (lines old.whole left0) sp.lines
        ∙ ap (λ x. x ∷ pieces_from makes r file (old.number + 1) (lines old.whole left1)) e;
    made = m.0;
    steps = m.1;
    comes = refl;
  }
  piece_gives (Ok None) line p sp e m = absurd m
  piece_gives (Err x) line p sp e m = subst (λ y. ReadsOn y s0 s1) (sym m) tt

  stop_gives : (result : Result (Option Mark) Ended) (P : Ended → Type 0) → IsErrAnd result P → s1 ≡ s0
      → Gives result first IsLater out err s0 s1
  stop_gives (Ok found) P m same = absurd m
  stop_gives (Err (E.Cut why text)) P m same = same
  stop_gives (Err _) P m same = tt

  pub gives_of : (found : Result Line LineFault) (result : Result (Option Mark) Ended)
      → MakesOf found result makes tool file now.number now.text out err s0 s1 → Numbers found old now
      → Passes found old now left0 left1 → Gives result first IsLater out err s0 s1
  gives_of (Ok L.Text) result m n p =
      piece_gives result now.text (makes file now.number now.text) p.0
      (text_is makes r file (old.number + 1) now.text p.1 p.2 ∙ ap (λ k. makes file k now.text) (sym n.0)) m
  gives_of (Ok L.End) result m n p =
      subst (λ x. Gives x first IsLater out err s0 s1) (sym m.0) (
        pieces_none makes r file old.number (lines old.whole left0) (ap (lines old.whole) p.0 ∙ lines_none old.whole),
        m.1,
      )
  gives_of (Err (F.TooLong k)) result m n p =
      piece_gives result p.0 (long k) p.1 (subst (λ x. line_piece makes r file x p.0 ≡ long k) (n.0
      ∙ n.1) (long_is makes r file k p.0 p.2)) m
  gives_of (Err (F.NotText k)) result m n p =
      piece_gives result p.0 (no_text k) p.1 (subst (λ x. line_piece makes r file x p.0 ≡ no_text k) (n.0
      ∙ n.1) (no_text_is makes r file k p.0 p.2 p.3)) m
  gives_of (Err F.NoMemory) result m n p = subst (λ x. Gives x first IsLater out err s0 s1) (sym m) tt
  gives_of (Err (F.Stopped Y.ReadFault)) result m n p = stop_gives result (IsStop Y.ReadFault) m.0 m.1
  gives_of (Err (F.Stopped Y.Spent)) result m n p = stop_gives result (IsStopOrMemory Y.Spent) m.0 m.1

  -- how many lines were passed, and whether there may be more
  goes_none : (result : Result (Option Mark) Ended) (P : Type 0) (Q : Ended → Type 0) → IsErrAnd result Q
      → OnPiece result P
  goes_none (Ok found) P Q h = absurd h
  goes_none (Err e) P Q h = tt

  abbrev pub Onward : Type 0
  Onward = (now.number ≡ old.number + 1) × (now.done ≡ false)

  -- if the answer of the reader gave a piece, one more line was passed and the input has not ended
  pub goes_of : (found : Result Line LineFault) (result : Result (Option Mark) Ended)
      → MakesOf found result makes tool file now.number now.text out err s0 s1 → Numbers found old now
      → OnPiece result Onward
  goes_of (Ok L.Text) result m n = goes_some result Onward n
  goes_of (Ok L.End) result m n = subst (λ x. OnPiece x Onward) (sym m.0) tt
  goes_of (Err F.NoMemory) result m n = subst (λ x. OnPiece x Onward) (sym m) tt
  goes_of (Err (F.Stopped Y.ReadFault)) result m n = goes_none result Onward (IsStop Y.ReadFault) m.0
  goes_of (Err (F.Stopped Y.Spent)) result m n = goes_none result Onward (IsStopOrMemory Y.Spent) m.0
  goes_of (Err _) result m n = goes_some result Onward (n.1, n.2)

  -- what is left of the source
  module _ {S : Type 0} (G : Ghosts S) (begin : Reader) (a b b' : S) (k : ℕ) (h : Since G begin old a b k) (whole :
      old.whole ≡ begin.whole) (reads : Reads G.tells old.held now.held (G.rest b) (G.rest b') (G.taken b) (G.taken b'))
      (at_end : G.tells → old.held.ended ≡ false → now.held.ended ≡ true → G.rest b' ≡ []) (ended :
      old.held.ended ≡ true
      → b' ≡ b) where
    piece_leaves : (result : Result (Option Mark) Ended) (p : Piece) → MakesPiece result p out err s0 s1
        → G.faults b' ≡ G.faults b
        → (G.tells → (line : List ℕ)
        × Splits old.whole now.held.ended line (left old.held (G.rest b)) (left now.held (G.rest b')))
        → LeavesBy (how_of result) G begin now a b' (count_of result k)
    piece_leaves (Ok (Some mark)) p m f sp = since_next G begin old a b k h whole now b' reads f sp at_end ended
    piece_leaves (Ok None) p m f sp = absurd m
    piece_leaves (Err e) p m f sp = subst (λ x. LeavesBy (end_of x) G begin now a b' k) (sym m) (f ∙ h.faults)

    failed_leaves : (result : Result (Option Mark) Ended) → IsErrAnd result (IsStop Y.ReadFault)
        → LeavesBy (CutBy Y.ReadFault) G begin now a b' k
        → LeavesBy (how_of result) G begin now a b' (count_of result k)
    failed_leaves (Err (E.Cut why text)) m x = subst (λ w. LeavesBy (CutBy w) G begin now a b' k) (sym m) x
    failed_leaves _ m x = absurd m

    spent_leaves : (result : Result (Option Mark) Ended) → IsErrAnd result (IsStopOrMemory Y.Spent)
        → G.faults b' ≡ G.faults b → LeavesBy (CutBy Y.Spent) G begin now a b' k
        → LeavesBy (how_of result) G begin now a b' (count_of result k)
    spent_leaves (Err E.NoMemory) m f x = f ∙ h.faults
    spent_leaves (Err (E.Cut why text)) m f x = subst (λ w. LeavesBy (CutBy w) G begin now a b' k) (sym m) x
    spent_leaves _ m f x = absurd m

    -- what is left of the source, by how far the step came: the end, a piece, a failed read, spent reads or no memory
    pub leaves_of : (found : Result Line LineFault) (result : Result (Option Mark) Ended)
        → MakesOf found result makes tool file now.number now.text out err s0 s1 → Numbers found old now
        → (G.tells → Passes found old now (left old.held (G.rest b)) (left now.held (G.rest b')))
        → HasCause found (G.faults b) (G.faults b') → Stops found G.tells old now (G.rest b) (G.rest b')
        → LeavesBy (how_of result) G begin now a b' (count_of result k)
    leaves_of (Ok L.Text) result m n p c s =
        piece_leaves result (makes file now.number now.text) m c (λ t. (now.text, (p t).0))
    leaves_of (Ok L.End) result m n p c s =
        subst (λ x. LeavesBy (how_of x) G begin now a b' (count_of x k)) (sym m.0)
        (past_next G begin old a b k h whole now b' reads c at_end ended n.3)
    leaves_of (Err (F.TooLong i)) result m n p c s = piece_leaves result (long i) m c (λ t. ((p t).0, (p t).1))
    leaves_of (Err (F.NotText i)) result m n p c s = piece_leaves result (no_text i) m c (λ t. ((p t).0, (p t).1))
    leaves_of (Err F.NoMemory) result m n p c s =
        subst (λ x. LeavesBy (how_of x) G begin now a b' (count_of x k)) (sym m) (c ∙ h.faults)
    leaves_of (Err (F.Stopped Y.ReadFault)) result m n p c s =
        failed_leaves result m.0 (stops_failed G begin old a b k h whole now b' reads s.0 s.1 c)
    leaves_of (Err (F.Stopped Y.Spent)) result m n p c s =
        spent_leaves result m.0 c (stops_spent G begin old a b k h whole now b' reads s.0 s.1 c s.2)

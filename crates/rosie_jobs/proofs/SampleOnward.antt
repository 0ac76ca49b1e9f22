-- A run over the lines of a sample goes from one to the next.
use Rattle.std.proofs.Common.{ℕ, zero, suc, ◌≡◌, ◌+◌, ◌-◌, ◌<◌, ◌≤◌, true, false, cond, List, [], ◌∷◌, ◌++◌, length}
use Rattle.std.proofs.Common.{length-append, refl, sym, ◌∙◌, ap, append_assoc, arith, subst}
use Rattle.std.specs.Prelude.{codes, map, Option, None, String}
use Rattle.std.specs.Str.{is_utf8}
use Rattle.rosie_run.specs.Lines.{Makes, line_piece, pieces_from}
use Rattle.rosie_run.specs.Report.{Piece, is_hit, outs}
use Rattle.rosie_run.specs.declared.mark.Mark.{Mark}
use Rattle.rosie_run.specs.declared.mark.Mark.TheVariants as M
use Rattle.rosie_run.proofs.Onward.{pieces_next, pieces_none, text_is}
use Rattle.rosie_run.proofs.Pieces.{outs_append, outs_nil, outs_one}
use Rattle.rosie_jobs.specs.SampleViews.{report_of}
use Rattle.std.proofs.lemmas.List.{append-nil}
use Rattle.rosie_jobs.specs.Jobs.{matcher_of}
use Rattle.rosie_jobs.specs.Lines.{line_reading}
use Rattle.rosie_jobs.specs.Makers.{makes_of}
use Rattle.rosie_run.specs.Going.{GivesPiece}
use Rattle.rosie_jobs.specs.declared.sample_run.SampleRun.{SampleRun}
use Rattle.rosie_jobs.specs.inside.SamplePassing.{ComesBy, IsLeft, lines_left, said_err, said_out}
use Rattle.rosie_jobs.specs.SampleCounts.{counts_piece, counts_text, hits, muted, sample_pieces}
use Rattle.rosie_jobs.specs.SampleLines.{next, drawn, line_of, sample}

-- the lines of a sample in turn
pub sample_none : (x n : ℕ) → n ≡ 0 → sample x n ≡ []
unfolding sample
sample_none x n e = ap (sample x) e

sample_step : (x n : ℕ) → 0 < n → sample x n ≡ line_of (drawn (next x)) ∷ sample (next x) (n - 1)
unfolding sample
sample_step x zero h = absurd (omega arith)
sample_step x (suc n) h =
    let e : n ≡ suc n - 1 = omega arith in ap (λ k. line_of (drawn (next x)) ∷ sample (next x) k) e

hits_append : (ps qs : List Piece) → hits (ps ++ qs) ≡ hits ps + hits qs
unfolding hits
hits_append [] qs = omega arith
hits_append (p ∷ ps) qs = let h = hits_append ps qs in omega arith

one_hit : (p : Piece) → hits (p ∷ []) ≡ cond (is_hit p.mark) 1 0
unfolding hits
one_hit p = omega arith

-- those that are left, by the next
pub left_next : (makes : Makes) (lines passed x : ℕ) (line : List ℕ) → line ≡ line_of (drawn (next x))
    → is_utf8 line ≡ true → length line ≤ 64 → passed < lines
    → pieces_from makes (line_reading false) (codes "-") passed (sample x (lines - passed))
    ≡ makes (codes "-") (passed + 1) line ∷ pieces_from makes (line_reading false) (codes "-") (passed + 1)
    (sample (next x) (lines - (passed + 1)))
left_next makes lines passed x line e u l more =
    let k : lines - passed - 1 ≡ lines - (passed + 1) = omega arith in
    pieces_next makes (line_reading false) (codes "-") passed (line_of (drawn (next x)))
    (sample (next x) (lines - passed - 1)) (sample x (lines - passed)) (sample_step x (lines - passed) (omega arith))
    ∙ ap (λ y. line_piece makes (line_reading false) (codes "-") (passed + 1) y ∷ pieces_from makes (line_reading false)
    (codes "-") (passed + 1) (sample (next x) (lines - passed - 1))) (sym e)
    ∙ ap (λ p. p ∷ pieces_from makes (line_reading false) (codes "-") (passed + 1)
    (sample (next x) (lines - passed - 1)))
    (text_is makes (line_reading false) (codes "-") (passed + 1) line (omega arith) u)
    ∙ ap (λ n. makes (codes "-") (passed + 1) line ∷ pieces_from makes (line_reading false) (codes "-") (passed + 1)
    (sample (next x) n)) k

pub hits_more : (done : List Piece) (p : Piece) (n m : ℕ) → n ≡ hits done → m ≡ n + cond (is_hit p.mark) 1 0
    → m ≡ hits (done ++ p ∷ [])
hits_more done p n m h e = let a = hits_append done (p ∷ []) in let b = one_hit p in omega arith

pub bytes_more : (done : List Piece) (p : Piece) (n m : ℕ) → n ≡ length (outs done) → m ≡ n + length p.out
    → m ≡ length (outs (done ++ p ∷ []))
bytes_more done p n m h e = let a = ap length (outs_append done (p ∷ [])) in let b = ap length (outs_one p) in
    omega (arith, length-append (outs done) (outs (p ∷ [])))

pub all_more : (lines : ℕ) (done left left' : List Piece) (p : Piece) (ps : List Piece) → left ≡ p ∷ left'
    → ps ≡ map muted left ++ counts_piece lines (done ++ left) ∷ []
    → ps ≡ muted p ∷ (map muted left' ++ counts_piece lines ((done ++ p ∷ []) ++ left') ∷ [])
all_more lines done left left' p ps e h =
    h ∙ ap (λ xs. map muted xs ++ counts_piece lines (done ++ xs) ∷ []) e
    ∙ ap (λ xs. muted p ∷ (map muted left' ++ counts_piece lines xs ∷ [])) (sym (append_assoc done (p ∷ []) left'))

pub one_most : (m : Mark) → cond (is_hit m) 1 0 ≤ 1
one_most M.Hit = omega arith
one_most _ = omega arith

pub gives_line : {Z : Type 0} (o : Option (String Z)) → o ≡ None
    → (s : SampleRun) (ps : List Piece) (mark : Mark) (err : List ℕ) (s0 s1 : ℕ)
    → GivesPiece ps (IsLeft s) mark [] err s0 s1 → GivesPiece ps (ComesBy o s) mark (said_out o) (said_err o err) s0 s1
gives_line o e s ps mark err s0 s1 h =
    subst (λ x. GivesPiece ps (ComesBy x s) mark (said_out x) (said_err x err) s0 s1) (sym e) h

-- the last piece
pub gives_last : (s : SampleRun) (ps : List Piece) (text : List ℕ) (n : ℕ) (D : List Piece → Type 0) → IsLeft s ps
    → s.lines ≤ s.passed
    → text ≡ counts_text s.lines s.matched s.bytes → D [] → GivesPiece ps D M.Miss text [] n n
gives_last s ps text n D h past says d =
    let makes = makes_of (matcher_of s.job) in
    let none : lines_left s ≡ [] =
    pieces_none makes (line_reading false) (codes "-") s.passed (sample s.sample.number (s.lines - s.passed))
    (sample_none s.sample.number (s.lines - s.passed) (omega arith)) in
    let all : h.done ≡ h.done ++ lines_left s = sym (ap (λ xs. h.done ++ xs) none ∙ append-nil h.done) in record {
      piece = counts_piece s.lines (h.done ++ lines_left s);
      more = [];
      is = h.is ∙ ap (λ xs. map muted xs ++ counts_piece s.lines (h.done ++ lines_left s) ∷ []) none;
      made = record {
        marks = refl;
        writes = says ∙ ap (λ k. counts_text s.lines k s.bytes) (h.matched ∙ ap hits all)
            ∙ ap (counts_text s.lines (hits (h.done ++ lines_left s))) (h.bytes ∙ ap (λ xs. length (outs xs)) all);
        tells = refl;
      };
      steps = omega arith;
      comes = d;
    }

pub left_by : {Z : Type 0} (o : Option (String Z)) → o ≡ None → (s : SampleRun) (ps : List Piece) → ComesBy o s ps
    → IsLeft s ps
left_by o e s ps h = subst (λ x. ComesBy x s ps) e h

report_is : (makes : Makes) (seed lines n : ℕ) → n ≡ lines
    → sample_pieces makes seed lines ≡ map muted (pieces_from makes (line_reading false) (codes "-") 0 (sample seed n))
    ++ counts_piece lines (pieces_from makes (line_reading false) (codes "-") 0 (sample seed n)) ∷ []
unfolding sample_pieces
report_is makes seed lines n e =
    ap (λ k. map muted (pieces_from makes (line_reading false) (codes "-") 0 (sample seed k))
    ++ counts_piece lines (pieces_from makes (line_reading false) (codes "-") 0 (sample seed k)) ∷ []) (sym e)

hits_none : 0 ≡ hits []
unfolding hits
hits_none = refl

-- where it begins, all of its report is to come
pub report_left : (s : SampleRun) → s.passed ≡ 0 → s.matched ≡ 0 → s.bytes ≡ 0 → IsLeft s (report_of s)
report_left s passed matched bytes =
    let makes = makes_of (matcher_of s.job) in record {
      done = [];
      matched = matched ∙ hits_none;
      bytes = bytes ∙ sym (ap length outs_nil);
      is = report_is makes s.sample.number s.lines (s.lines - s.passed) (omega arith)
          ∙ ap (λ n. map muted
          (pieces_from makes (line_reading false) (codes "-") n (sample s.sample.number (s.lines - s.passed)))
          ++ counts_piece s.lines
          (pieces_from makes (line_reading false) (codes "-") n (sample s.sample.number (s.lines - s.passed))) ∷ [])
          (sym passed);
    }

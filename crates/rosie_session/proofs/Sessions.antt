-- The laws of sessions.
use Rattle.std.proofs.Common.{◌≡◌, ◌≢◌, inl, inr, ℕ, ◌+◌, Bool, true, false, cond, List, [], ◌∷◌, length, refl, sym}
use Rattle.std.proofs.Common.{ap, subst, arith, ◌∙◌, rules}
use Rattle.std.specs.Prelude.{codes, nat_lt, chars, not, Option, Some, None, Ok, Err}
use Rattle.std.specs.Str.{is_utf8}
use Rattle.std.proofs.lemmas.Str.{IsUtf8-from_ascii, is_utf8-from_IsUtf8}
use Rattle.rosie_io.specs.Lines.{lines}
use Rattle.rosie_jobs.specs.Lines.{Job, budget_of, is_over, steps_made, match_makes, matches, answered, outcome_piece}
use Rattle.rosie_jobs.specs.Lines.{unanswered}
use Rattle.rosie_jobs.proofs.Staying.{match_stays}
use Rattle.rosie_prepare.specs.Prepared.{OrLine}
use Rattle.rosie_repl.specs.Edits.{Edit, Add, Replace, Remove, Pattern, Try, Undo, edit_of, in_chars}
use Rattle.rosie_repl.specs.Session.{KeptTexts, Session, begun, changed, kept_by, onward, undone}
use Rattle.rosie_run.specs.Report.{Piece, fault_piece, has, is_stop}
use Rattle.rosie_run.specs.declared.mark.Mark.TheVariants.{Fault}
use Rattle.rosie_run.proofs.Pieces.{has_nil}
use Rattle.rpl_core.specs.Meaning.{Outcome}
use Rattle.rpl_core.specs.Outcome.{outcome}
use Rattle.rpl_core.specs.Run.{run}
use Rattle.rpl_encode.specs.Answer.{max_answer_bytes}
use Rattle.rpl_encode.specs.Print.{print}
use Rattle.rosie_session.specs.Laws.{NoStopLaw, SameAnswer, TryLaw, UndoLaw, is_change}
use Rattle.rosie_session.specs.Loading.{Loading}
use Rattle.rosie_session.specs.Replay.{Turn, accepted, change_turn, edit_turn, judged_by, load_turn, or_no, out_or_no}
use Rattle.rosie_session.specs.Replay.{
  pieces_of,
  plain,
  refused,
  session_fault,
  tried_piece,
  try_turn,
  turn,
  turns_from,
}
use Rattle.rosie_session.specs.Replay.{undo_turn}

-- a line that is too long, or no text, or is a command
abbrev pub by_tests : Loading → ℕ → Session → Option Edit → (long text : Bool) → Turn
by_tests w m s o long text =
    cond long (refused s [] (session_fault m (codes "line too long")))
    (cond text (edit_turn w m s o) (refused s [] (session_fault m (codes "not UTF-8"))))

pub turn_by : (w : Loading) (m : ℕ) (s : Session) (line : List ℕ)
    → turn w m s line ≡ by_tests w m s (edit_of line) (nat_lt 1048576 (length line)) (is_utf8 line)
unfolding turn
turn_by w m s line = refl

-- ---- undo

-- after `u`
undoes : (w : Loading) (n : ℕ) (s : Session) → turn w n s (codes "u") ≡ undo_turn n s (undone s)
undoes w n s =
    let one : is_utf8 (codes "u") ≡ true =
    is_utf8-from_IsUtf8 (codes "u") (IsUtf8-from_ascii (codes "u") (search rules)) in
    turn_by w n s (codes "u") ∙ ap (λ b. by_tests w n s (Some Undo) false b) one

abbrev GoesBack : Loading → ℕ → Session → Turn → Type 0
GoesBack w n s t = t.piece.mark ≢ Fault → turn w n t.session (codes "u") ≡ accepted s []

judged_back : {A : Type 0} (w : Loading) (n : ℕ) (s : Session) (k : KeptTexts) (asked : List (List ℕ)) (o : OrLine A)
    → GoesBack w n s (judged_by s (record { now = k; past = s.now ∷ s.past }) asked o)
judged_back w n s k asked (Ok a) h = undoes w n (record { now = k; past = s.now ∷ s.past })
judged_back w n s k asked (Err text) h = absurd (h refl)

loaded_back : (w : Loading) (n : ℕ) (s : Session) (k : KeptTexts) (e : Edit)
    → GoesBack w n s (load_turn w e s (record { now = k; past = s.now ∷ s.past }))
loaded_back w n s k (Pattern text) = judged_back w n s k (w.goal k.texts text).asked (w.goal k.texts text).answer
loaded_back w n s k _ = judged_back w n s k (w.texts k.texts).asked (w.texts k.texts).answer

change_back : (w : Loading) (m n : ℕ) (s : Session) (e : Edit) (o : Option KeptTexts)
    → GoesBack w n s (change_turn w m s e (onward s o))
change_back w m n s e None h = absurd (h refl)
change_back w m n s e (Some k) h = loaded_back w n s k e h

edit_back : (w : Loading) (m n : ℕ) (s : Session) (e : Edit) → is_change e ≡ true
    → GoesBack w n s (edit_turn w m s (Some e))
edit_back w m n s (Add text) c h = change_back w m n s (in_chars (Add text)) (kept_by (in_chars (Add text)) s.now) h
edit_back w m n s (Replace k text) c h =
    change_back w m n s (in_chars (Replace k text)) (kept_by (in_chars (Replace k text)) s.now) h
edit_back w m n s (Remove k) c h = change_back w m n s (in_chars (Remove k)) (kept_by (in_chars (Remove k)) s.now) h
edit_back w m n s (Pattern text) c h =
    change_back w m n s (in_chars (Pattern text)) (kept_by (in_chars (Pattern text)) s.now) h
edit_back w m n s _ c h = absurd (cc)

any_back : (w : Loading) (m n : ℕ) (s : Session) (e : Edit) (a b : Bool) → is_change e ≡ true
    → GoesBack w n s (by_tests w m s (Some e) a b)
any_back w m n s e false true c h = edit_back w m n s e c h
any_back w m n s e _ _ c h = absurd (h refl)

pub undo_holds : UndoLaw
undo_holds w m n s line e q c =
    let a = nat_lt 1048576 (length line) in
    let b = is_utf8 line in
    let is : turn w m s line ≡ by_tests w m s (Some e) a b =
    turn_by w m s line ∙ ap (λ o. by_tests w m s o a b) q in
    subst (GoesBack w n s) (sym is) (any_back w m n s e a b c)

-- ---- a line that is tried

same_all : (m n : ℕ) (p : Piece) → SameAnswer m n p p
same_all m n p = record { out = refl; err = inl refl; mark = refl; cost = refl }

same_fault : (m n : ℕ) (text : List ℕ) (cost : ℕ)
    → SameAnswer m n (unanswered (session_fault m text) cost) (unanswered (session_fault n text) cost)
same_fault m n text cost = record { out = refl; err = inr (text, refl, refl); mark = refl; cost = refl }

same_if : (b : Bool) (m n : ℕ) (p q r s : Piece) → SameAnswer m n p q → SameAnswer m n r s
    → SameAnswer m n (cond b p r) (cond b q s)
same_if true m n p q r s h k = h
same_if false m n p q r s h k = k

outcome_same : (m n : ℕ) (line : List ℕ) (o : Outcome) (cost : ℕ)
    → SameAnswer m n (outcome_piece plain (codes "(session)") m line o cost)
    (outcome_piece plain (codes "(session)") n line o cost)
outcome_same m n line o cost =
    let text = print plain.style (chars line) o in
    same_if (not (nat_lt max_answer_bytes (length text))) m n _ _ _ _
    (same_all m n (answered plain line text (matches o) cost cost)) (same_fault m n (codes "answer too long") cost)

made_same : (m n : ℕ) (job : Job) (line : List ℕ)
    → SameAnswer m n (match_makes plain job (codes "(session)") m line)
    (match_makes plain job (codes "(session)") n line)
unfolding match_makes
made_same m n job line =
    let a = run job.code (chars line) (budget_of plain (chars line)) in
    let cost = steps_made (budget_of plain (chars line)) a in
    same_if (is_over a) m n _ _ _ _ (same_fault m n (codes "budget spent") cost)
    (outcome_same m n line (outcome job.rules job.goal (chars line)) cost)

no_same : (m n : ℕ) (p q : Piece) → SameAnswer m n p q → SameAnswer m n (or_no p) (or_no q)
no_same m n p q h =
    record {
      out = ap (λ x. out_or_no x p.out) h.mark ∙ ap (out_or_no q.mark) h.out;
      err = h.err;
      mark = h.mark;
      cost = h.cost;
    }

tried_same : (m n : ℕ) (line : List ℕ) (r : OrLine Job) → SameAnswer m n (tried_piece m line r) (tried_piece n line r)
tried_same m n line (Ok job) = no_same m n _ _ (made_same m n job line)
tried_same m n line (Err text) = same_all m n (fault_piece text)

abbrev AnswersAs : Loading → ℕ → ℕ → Session → Session → Turn → Turn → Type 0
AnswersAs w m n s r t u = SameAnswer m n t.piece u.piece × (t.session ≡ s)

pattern_same : (w : Loading) (m n : ℕ) (s r : Session) (k : KeptTexts) (line : List ℕ) (o : Option (List ℕ)) → s.now ≡ k
    → r.now ≡ k
    → AnswersAs w m n s r (try_turn w m s o line) (try_turn w n r o line)
pattern_same w m n s r k line None e f = (same_fault m n (codes "no pattern") 0, refl)
pattern_same w m n s r k line (Some pattern) e f = (
  subst (λ x. SameAnswer m n (tried_piece m line (w.goal s.now.texts pattern).answer)
      (tried_piece n line (w.goal x.texts pattern).answer)) (e ∙ sym f)
      (tried_same m n line (w.goal s.now.texts pattern).answer),
  refl,
)

try_same : (w : Loading) (m n : ℕ) (s r : Session) (line : List ℕ) → s.now ≡ r.now
    → AnswersAs w m n s r (try_turn w m s s.now.pattern line) (try_turn w n r r.now.pattern line)
try_same w m n s r line e =
    subst (λ k. AnswersAs w m n s r (try_turn w m s s.now.pattern line) (try_turn w n r k.pattern line)) e
    (pattern_same w m n s r r.now line s.now.pattern e refl)

any_same : (w : Loading) (m n : ℕ) (s r : Session) (line : List ℕ) (a b : Bool) → s.now ≡ r.now
    → AnswersAs w m n s r (by_tests w m s (Some (Try line)) a b) (by_tests w n r (Some (Try line)) a b)
any_same w m n s r line true b e = (same_fault m n (codes "line too long") 0, refl)
any_same w m n s r line false true e = try_same w m n s r line e
any_same w m n s r line false false e = (same_fault m n (codes "not UTF-8") 0, refl)

pub try_holds : TryLaw
try_holds w m n s r line tried q e =
    let a = nat_lt 1048576 (length line) in
    let b = is_utf8 line in
    let one : turn w m s line ≡ by_tests w m s (Some (Try tried)) a b =
    turn_by w m s line ∙ ap (λ o. by_tests w m s o a b) q in
    let two : turn w n r line ≡ by_tests w n r (Some (Try tried)) a b =
    turn_by w n r line ∙ ap (λ o. by_tests w n r o a b) q in
    let h = any_same w m n s r tried a b e in
    let g = subst (λ t. AnswersAs w m n s r t (turn w n r line)) (sym one)
    (subst (λ t. AnswersAs w m n s r (by_tests w m s (Some (Try tried)) a b) t) (sym two) h) in
    record { same = g.0; stays = g.1 }

-- ---- no piece ends a session

abbrev GoesOn : Piece → Type 0
GoesOn p = is_stop p.mark ≡ false

tried_goes : (n : ℕ) (line : List ℕ) (r : OrLine Job) → GoesOn (tried_piece n line r)
tried_goes n line (Ok job) = match_stays plain job (codes "(session)") n line
tried_goes n line (Err text) = refl

try_goes : (w : Loading) (n : ℕ) (s : Session) (o : Option (List ℕ)) (line : List ℕ)
    → GoesOn (try_turn w n s o line).piece
try_goes w n s None line = refl
try_goes w n s (Some p) line = tried_goes n line (w.goal s.now.texts p).answer

judged_goes : {A : Type 0} (s after : Session) (asked : List (List ℕ)) (o : OrLine A)
    → GoesOn (judged_by s after asked o).piece
judged_goes s after asked (Ok a) = refl
judged_goes s after asked (Err text) = refl

loaded_goes : (w : Loading) (e : Edit) (s after : Session) → GoesOn (load_turn w e s after).piece
loaded_goes w (Pattern text) s after = judged_goes s after _ (w.goal after.now.texts text).answer
loaded_goes w _ s after = judged_goes s after _ (w.texts after.now.texts).answer

change_goes : (w : Loading) (n : ℕ) (s : Session) (e : Edit) (o : Option Session) → GoesOn (change_turn w n s e o).piece
change_goes w n s e None = refl
change_goes w n s e (Some after) = loaded_goes w e s after

undo_goes : (n : ℕ) (s : Session) (o : Option Session) → GoesOn (undo_turn n s o).piece
undo_goes n s None = refl
undo_goes n s (Some before) = refl

edit_goes : (w : Loading) (n : ℕ) (s : Session) (o : Option Edit) → GoesOn (edit_turn w n s o).piece
edit_goes w n s None = refl
edit_goes w n s (Some (Add text)) = change_goes w n s (in_chars (Add text)) (changed (in_chars (Add text)) s)
edit_goes w n s (Some (Replace k text)) =
    change_goes w n s (in_chars (Replace k text)) (changed (in_chars (Replace k text)) s)
edit_goes w n s (Some (Remove k)) = change_goes w n s (in_chars (Remove k)) (changed (in_chars (Remove k)) s)
edit_goes w n s (Some (Pattern text)) =
    change_goes w n s (in_chars (Pattern text)) (changed (in_chars (Pattern text)) s)
edit_goes w n s (Some (Try line)) = try_goes w n s s.now.pattern line
edit_goes w n s (Some Undo) = undo_goes n s (undone s)

tests_go : (w : Loading) (n : ℕ) (s : Session) (o : Option Edit) (a b : Bool) → GoesOn (by_tests w n s o a b).piece
tests_go w n s o false true = edit_goes w n s o
tests_go w n s o _ _ = refl

pub turn_goes : (w : Loading) (n : ℕ) (s : Session) (line : List ℕ) → is_stop (turn w n s line).piece.mark ≡ false
turn_goes w n s line =
    subst (λ t. GoesOn t.piece) (sym (turn_by w n s line))
    (tests_go w n s (edit_of line) (nat_lt 1048576 (length line)) (is_utf8 line))

has_cons : (p : Piece) (ps : List Piece) → is_stop p.mark ≡ false → has is_stop ps ≡ false
    → has is_stop (p ∷ ps) ≡ false
unfolding has
has_cons p ps h k = grind (arith, h, k)

pub all_go : (w : Loading) (n : ℕ) (s : Session) (ls : List (List ℕ))
    → has is_stop (pieces_of (turns_from w n s ls)) ≡ false
unfolding turns_from
all_go w n s [] = has_nil is_stop
all_go w n s (line ∷ more) =
    has_cons (turn w (n + 1) s line).piece _ (turn_goes w (n + 1) s line)
    (all_go w (n + 1) (turn w (n + 1) s line).session more)

-- no piece of a session ends its run
pub never_stops : NoStopLaw
never_stops w input = all_go w 0 begun (lines false input)

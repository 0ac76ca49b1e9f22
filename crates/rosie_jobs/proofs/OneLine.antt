-- The piece of one line, case by case.
use Rattle.std.proofs.Common.{ℕ, ◌≡◌, ◌+◌, Bool, true, false, cond, List, [], ◌∷◌, ◌++◌, length, refl, sym, ◌∙◌, ap}
use Rattle.std.proofs.Common.{subst, arith}
use Rattle.std.specs.Prelude.{Option, Result, Ok, Err, IfOk, OnOk, not, nat_lt, map, Some, None, chars, codes}
use Rattle.std.specs.Prelude.{encode_utf8_all, slice_index_or}
use Rattle.std.specs.Str.{IsUtf8, all_scalars}
use Rattle.std.proofs.lemmas.Bool.{false≢true}
use Rattle.std.proofs.lemmas.List.{map-append}
use Rattle.std.proofs.lemmas.Str.{chars-encodes}
use Rattle.rpl_core.specs.Captures.{named, all_named, moved}
use Rattle.rpl_core.specs.Forest.{Forest, NoTree, Tree, Noted, flat}
use Rattle.rpl_core.specs.Forest as F
use Rattle.rpl_core.specs.Meaning.{Outcome}
use Rattle.rpl_core.specs.Instr.{Instr}
use Rattle.rpl_core.specs.Run.{Answer, Matched, Failed, Unfinished, run}
use Rattle.rpl_core.specs.declared.caught.Caught.{Caught}
use Rattle.rpl_core.specs.declared.caught.Caught.TheVariants.{Begin, Finish, Note}
use Rattle.rpl_encode.specs.Answer.{answer, max_answer_bytes}
use Rattle.rpl_encode.specs.Print.{found, in_bytes, placed, print}
use Rattle.rpl_tree.specs.Trees.{label_in}
use Rattle.rpl_machine.specs.Shown.{caught_of, captures_of, CaptureIn, CapturesIn}
use Rattle.rpl_text.specs.Places.{at, index}
use Rattle.rosie_run.specs.Lines.{line_fault}
use Rattle.rosie_run.specs.Made.{IsMade}
use Rattle.rosie_run.specs.Report.{Piece}
use Rattle.rosie_run.specs.declared.mark.Mark.{Mark}
use Rattle.rosie_jobs.specs.Lines.{budget_of, is_over, steps_made, matches, unanswered, said, outcome_piece, ran_piece}
use Rattle.rosie_jobs.specs.inside.Printed.{Printed, Finds, IsShown}
use Rattle.rosie_words.specs.declared.settings.Settings.{Settings}

when_true : {A : Type 0} (b : Bool) (x y : A) → b ≡ true → cond b x y ≡ x
when_true b x y e = ap (λ v. cond v x y) e

when_false : {A : Type 0} (b : Bool) (x y : A) → b ≡ false → cond b x y ≡ y
when_false b x y e = ap (λ v. cond v x y) e

-- the characters of a text spell it, and are characters
pub spelled : (bs : List ℕ) → IsUtf8 bs → encode_utf8_all (chars bs) ≡ bs
spelled bs u = ap encode_utf8_all (ap chars (sym u.1.1) ∙ chars-encodes u.0 u.1.0) ∙ u.1.1

-- the characters of a UTF-8 text are scalar values
pub are_scalars : (bs : List ℕ) → IsUtf8 bs → all_scalars (chars bs) ≡ true
are_scalars bs u = ap all_scalars (ap chars (sym u.1.1) ∙ chars-encodes u.0 u.1.0) ∙ u.1.0

-- captures by bytes, and the trees that they are
caught_same : (t : List ℕ) (texts : List (List ℕ)) (c : Caught) → CaptureIn t c
    → named (label_in texts) c ≡ moved (at t) (caught_of t texts c)
caught_same t texts (Begin label p) h = ap (F.Begin (slice_index_or texts label [])) (sym h)
caught_same t texts (Finish p) h = ap F.Finish (sym h)
caught_same t texts (Note text p) h = ap (F.Mark (slice_index_or texts text [])) (sym h)

all_same : (t : List ℕ) (texts : List (List ℕ)) (cs : List Caught) → CapturesIn t cs
    → all_named (label_in texts) cs ≡ map (moved (at t)) (captures_of t texts cs)
all_same t texts [] h = refl
all_same t texts (c ∷ cs) h = ap (λ x. x ∷ all_named (label_in texts) cs) (caught_same t texts c h.0)
    ∙ ap (λ xs. moved (at t) (caught_of t texts c) ∷ xs) (all_same t texts cs h.1)

flat_placed : (place_of : ℕ → ℕ) (f : Forest) → flat (placed place_of f) ≡ map (moved place_of) (flat f)
flat_placed place_of NoTree = refl
flat_placed place_of (Tree label start end below behind) =
    ap (λ xs. moved place_of (F.Begin label start)
    ∷ (xs ++ moved place_of (F.Finish end) ∷ flat (placed place_of behind))) (flat_placed place_of below)
    ∙ ap (λ xs. moved place_of (F.Begin label start) ∷ (map (moved place_of) (flat below)
    ++ moved place_of (F.Finish end) ∷ xs)) (flat_placed place_of behind)
    ∙ ap (λ xs. moved place_of (F.Begin label start) ∷ xs)
    (sym (map-append (moved place_of) (flat below) (F.Finish end ∷ flat behind)))
flat_placed place_of (Noted text place behind) =
    ap (λ xs. moved place_of (F.Mark text place) ∷ xs) (flat_placed place_of behind)

-- if captures are those of some trees, then with names and byte offsets they are the captures of the same trees
pub trees_same : (t : List ℕ) (texts : List (List ℕ)) (cs : List Caught) (f : Forest) → CapturesIn t cs
    → captures_of t texts cs ≡ flat f → all_named (label_in texts) cs ≡ flat (placed (at t) f)
trees_same t texts cs f inside e = all_same t texts cs inside ∙ ap (map (moved (at t))) e ∙ sym (flat_placed (at t) f)

-- what the answers of the machine tell of the line
ran_same : (code code' : List Instr) (t t' : List ℕ) (b b' : ℕ) (a : Answer) → code ≡ code' → t ≡ t' → b ≡ b'
    → run code t b ≡ a → run code' t' b' ≡ a
ran_same code code' t t' b b' a ec et eb e = ap (λ x. run code' t' x) (sym eb) ∙ ap (λ x. run code' x b) (sym et)
    ∙ ap (λ x. run x t b) (sym ec) ∙ e

caught_alike : (n i : ℕ) (cs ds : List F.Caught) → Matched n i cs ≡ Matched n i ds → cs ≡ ds
caught_alike n i cs ds e = cc

module _ (s : Settings) (program : List Instr) (o : Outcome) (line : List ℕ) (u : IsUtf8 line) where
  abbrev ran : Answer
  ran = run program (chars line) (budget_of s (chars line))

  shown_found : (x : Option Forest) → found o ≡ x
      → print s.style (chars line) o ≡ answer s.style line (in_bytes (chars line) x)
  shown_found x e =
      ap (λ y. answer s.style (encode_utf8_all (chars line)) (in_bytes (chars line) y)) e
      ∙ ap (λ t. answer s.style t (in_bytes (chars line) x)) (spelled line u)

  -- a match is one of the outcome, whose trees the captures are
  pub ran_at : IsShown ran o → (t : List ℕ) (cs : List F.Caught) (b n i : ℕ) (code : List Instr) → t ≡ chars line
      → b ≡ budget_of s (chars line) → code ≡ program → run code t b ≡ Matched n i cs → (f : Forest) × (cs ≡ flat f)
      × Finds s program o line (answer s.style line (Some (placed (at (chars line)) f))) true n
  ran_at shown t cs b n i code et eb ec e =
      let is : ran ≡ Matched n i cs =
      ran_same code program t (chars line) b (budget_of s (chars line)) (Matched n i cs) ec et eb e in
      let told : IsShown (Matched n i cs) o = subst (λ a. IsShown a o) is shown in
      let f = told.0 in (
        f,
        told.2,
        record {
          within = ap is_over is;
          matches = told.3;
          prints = sym (shown_found (Some f) told.1);
          cost = sym (ap (steps_made (budget_of s (chars line))) is);
        },
      )

  pub ran_fail : IsShown ran o → (t : List ℕ) (b n : ℕ) (code : List Instr) → t ≡ chars line
      → b ≡ budget_of s (chars line) → code ≡ program → run code t b ≡ Failed n
      → Finds s program o line (answer s.style line None) false n
  ran_fail shown t b n code et eb ec e =
      let is : ran ≡ Failed n = ran_same code program t (chars line) b (budget_of s (chars line)) (Failed n) ec et eb e
      in
      let told : IsShown (Failed n) o = subst (λ a. IsShown a o) is shown in
      record {
        within = ap is_over is;
        matches = told.1;
        prints = sym (shown_found None told.0);
        cost = sym (ap (steps_made (budget_of s (chars line))) is);
      }

  pub ran_over : (t : List ℕ) (b : ℕ) (code : List Instr) → t ≡ chars line → b ≡ budget_of s (chars line)
      → code ≡ program → run code t b ≡ Unfinished → ran ≡ Unfinished
  ran_over t b code et eb ec e = ran_same code program t (chars line) b (budget_of s (chars line)) Unfinished ec et eb e

-- how the run on a line ends, and what is kept of its answer
pub record Ends (s : Settings) (program : List Instr) (o : Outcome) (line : List ℕ) (fits hit : Bool) (kept :
    List ℕ) (steps : ℕ) : Type 0 where
  pub within : is_over (run program (chars line) (budget_of s (chars line))) ≡ false
  pub matches : matches o ≡ hit
  pub short : not (nat_lt max_answer_bytes (length (print s.style (chars line) o))) ≡ fits
  pub same : fits ≡ true → kept ≡ print s.style (chars line) o
  pub cost : steps ≡ steps_made (budget_of s (chars line)) (run program (chars line) (budget_of s (chars line)))

fits_by : (fits : Bool) (text kept : List ℕ) → Printed fits text kept
    → not (nat_lt max_answer_bytes (length text)) ≡ fits
fits_by true text kept p = let h = p.1 in let test : nat_lt max_answer_bytes (length text) ≡ false = grind (arith, h) in
    ap not test
fits_by false text kept p = let test : nat_lt max_answer_bytes (length text) ≡ true = grind (arith, p) in ap not test

kept_by : (fits : Bool) (text kept : List ℕ) → Printed fits text kept → fits ≡ true → kept ≡ text
kept_by true text kept p e = p.0
kept_by false text kept p e = absurd (false≢true e)

ends_of : (s : Settings) (program : List Instr) (o : Outcome) (line text : List ℕ) (fits hit : Bool) (kept :
    List ℕ) (steps : ℕ) → Finds s program o line text hit steps → Printed fits text kept
    → Ends s program o line fits hit kept steps
ends_of s program o line text fits hit kept steps f p = record {
  within = f.within;
  matches = f.matches;
  short = ap (λ x. not (nat_lt max_answer_bytes (length x))) (sym f.prints) ∙ fits_by fits text kept p;
  same = λ e. kept_by fits text kept p e ∙ f.prints;
  cost = f.cost;
}

module _ (s : Settings) (program : List Instr) (o : Outcome) (line : List ℕ) (u : IsUtf8 line) (shown :
    IsShown (run program (chars line) (budget_of s (chars line))) o) where
  -- a run that matched, whose answer was printed; its captures are known where they are kept
  pub hit_ends : (t : List ℕ) (texts : List (List ℕ)) (cs : List Caught) (b n p : ℕ) (code : List Instr) (fits :
      Bool) (kept : List ℕ) (K : Type 0) → t ≡ chars line → b ≡ budget_of s (chars line) → code ≡ program
      → (ds : List F.Caught) × (run code t b ≡ Matched n (index t p) ds)
      → (K → (run code t b ≡ Matched n (index t p) (captures_of t texts cs)) × CapturesIn t cs)
      → ((f : Forest) → (K → (captures_of (chars line) texts cs ≡ flat f) × CapturesIn (chars line) cs)
      → Printed fits (answer s.style line (Some (placed (at (chars line)) f))) kept)
      → Ends s program o line fits true kept n
  hit_ends t texts cs b n p code fits kept K et eb ec place captures printed =
      let r = ran_at s program o line u shown t place.0 b n (index t p) code et eb ec place.1 in
      let caught : (K → (captures_of (chars line) texts cs ≡ flat r.0) × CapturesIn (chars line) cs) = λ k.
      let a = captures k in (
        ap (λ x. captures_of x texts cs) (sym et)
            ∙ caught_alike n (index t p) (captures_of t texts cs) place.0 (sym a.0 ∙ place.1) ∙ r.1,
        subst (λ x. CapturesIn x cs) et a.1,
      ) in
      ends_of s program o line (answer s.style line (Some (placed (at (chars line)) r.0))) fits true kept n r.2
      (printed r.0 caught)

  -- and one that didn't
  pub miss_ends : (t : List ℕ) (b n : ℕ) (code : List Instr) (fits : Bool) (kept : List ℕ) → t ≡ chars line
      → b ≡ budget_of s (chars line) → code ≡ program → run code t b ≡ Failed n
      → Printed fits (answer s.style line None) kept → Ends s program o line fits false kept n
  miss_ends t b n code fits kept et eb ec e printed =
      ends_of s program o line (answer s.style line None) fits false kept n
      (ran_fail s program o line u shown t b n code et eb ec e) printed

-- the pieces
module _ (s : Settings) (program : List Instr) (o : Outcome) (file : List ℕ) (n : ℕ) (line : List ℕ) where
  abbrev ran_line : Answer
  ran_line = run program (chars line) (budget_of s (chars line))

  abbrev cost : ℕ
  cost = steps_made (budget_of s (chars line)) ran_line

  abbrev over : Piece
  over = unanswered (line_fault file n (codes "budget spent")) cost

  abbrev within : Piece
  within = outcome_piece s file n line o cost

  pub over_piece : ran_line ≡ Unfinished → ran_piece s file n line o ran_line ≡ over
  over_piece e = when_true (is_over ran_line) over within (ap is_over e)

  kept_same : (fits hit : Bool) (text kept : List ℕ) (k c : ℕ) → (fits ≡ true → kept ≡ text)
      → said s file n line fits text hit k c ≡ said s file n line fits kept hit k c
  kept_same true hit text kept k c e = ap (λ x. said s file n line true x hit k c) (sym (e refl))
  kept_same false hit text kept k c e = refl

  -- what is said of a line whose answer was printed
  pub said_piece : (fits hit : Bool) (kept : List ℕ) (steps : ℕ) → Ends s program o line fits hit kept steps
      → ran_piece s file n line o ran_line ≡ said s file n line fits kept hit steps steps
  said_piece fits hit kept steps e =
      let text = print s.style (chars line) o in
      when_false (is_over ran_line) over within e.within
      ∙ ap (λ b. said s file n line b text (matches o) cost cost) e.short
      ∙ ap (λ b. said s file n line fits text b cost cost) e.matches
      ∙ ap (λ k. said s file n line fits text hit k k) (sym e.cost)
      ∙ kept_same fits hit text kept steps steps e.same

-- how many steps are told
said_cost : (s : Settings) (file : List ℕ) (n : ℕ) (line : List ℕ) (fits : Bool) (text : List ℕ) (hit : Bool) (k c : ℕ)
    → (said s file n line fits text hit k c).cost ≡ c
said_cost s file n line true text hit k c = refl
said_cost s file n line false text hit k c = refl

either_cost : (b : Bool) (p q : Piece) (c : ℕ) → p.cost ≡ c → q.cost ≡ c → (cond b p q).cost ≡ c
either_cost true p q c e f = e
either_cost false p q c e f = f

pub ran_cost : (s : Settings) (file : List ℕ) (n : ℕ) (line : List ℕ) (o : Outcome) (a : Answer)
    → (ran_piece s file n line o a).cost ≡ steps_made (budget_of s (chars line)) a
ran_cost s file n line o a =
    let c = steps_made (budget_of s (chars line)) a in
    either_cost (is_over a) (unanswered (line_fault file n (codes "budget spent")) c) (outcome_piece s file n line o c)
    c refl
    (said_cost s file n line (not (nat_lt max_answer_bytes (length (print s.style (chars line) o))))
    (print s.style (chars line) o) (matches o) c c)

pub ran_steps : (s : Settings) (program : List Instr) (line t : List ℕ) (b : ℕ) (code : List Instr) (a :
    Answer) (s0 s1 : ℕ) → t ≡ chars line → b ≡ budget_of s (chars line) → code ≡ program → run code t b ≡ a
    → s1 ≡ s0 + steps_made b a
    → s1 ≡ s0 + steps_made (budget_of s (chars line)) (run program (chars line) (budget_of s (chars line)))
ran_steps s program line t b code a s0 s1 et eb ec e k =
    k ∙ ap (λ x. s0 + x) (ap (λ x. steps_made x a) eb
    ∙ sym (ap (steps_made (budget_of s (chars line))) (ran_same code program t (chars line) b (budget_of s (chars line))
    a
    ec et eb e)))

pub made_ok : {E : Type 0} (r : Result Mark E) (out err : List ℕ) (p q : Piece) → q ≡ p
    → IfOk r (λ mark. IsMade mark out err p) → IfOk r (λ mark. IsMade mark out err q)
made_ok r out err p q e h = subst (λ x. IfOk r (λ mark. IsMade mark out err x)) (sym e) h

-- what holds in any case holds where a call returns `Ok`
pub on_ok : {A E : Type 0} {P : Type 0} (r : Result A E) → P → OnOk r P
on_ok (Ok a) p = p
on_ok (Err e) p = tt

pub said_long : (s : Settings) (file : List ℕ) (n : ℕ) (line : List ℕ) (fits : Bool) (text : List ℕ) (hit : Bool) (k c :
    ℕ) → fits ≡ false → said s file n line fits text hit k c ≡ unanswered (line_fault file n (codes "answer too long"))
    c
said_long s file n line fits text hit k c e = ap (λ b. said s file n line b text hit k c) e

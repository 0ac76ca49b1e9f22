-- Which spans fit as bounds.
use Rattle.std.proofs.Common.{◌≡◌, inl, inr, ℕ, zero, suc, ◌+◌, ◌-◌, ◌<◌, ◌≤◌, List, [], ◌∷◌, length, take, drop, refl}
use Rattle.std.proofs.Common.{sym, ap, subst, ◌∙◌, arith, length-drop, length-take-le}
use Rattle.std.specs.Prelude.{Bool, true, false, ◌||◌, nat_eq}
use Rattle.std.proofs.lemmas.Bool.{cases_Bool}
use Rattle.std.proofs.lemmas.List.{drop-take}
use Rattle.rpl_text.specs.Ascii.{is_digit}
use Rattle.rpl_lexer.specs.declared.bounds.Span.{Span}
use Rattle.rpl_lexer.specs.declared.bounds.Parts.{Parts}
use Rattle.rpl_lexer.specs.Bytes.{is_space, run, past, begins, has}
use Rattle.rpl_lexer.specs.Braces.{digits_from, parts_by, parts, begins_bounds}
use Rattle.rpl_lexer.specs.Forms.{AreBounds}
use Rattle.rpl_lexer.proofs.Edges.{has_is}
use Rattle.rpl_lexer.proofs.Values.{run_take}
use Rattle.rpl_lexer.proofs.Spans.{head_same}

run_kept : (p : ℕ → Bool) (s : List ℕ) (n : ℕ) → run p (take n s) < n → n ≤ length s → run p s ≡ run p (take n s)
run_kept p [] n lt le = absurd (omega arith)
run_kept p (b ∷ bs) zero lt le = absurd (omega arith)
run_kept p (b ∷ bs) (suc n) lt le = elim (cases_Bool (p b)) [
  | inl h ↦ let m : suc (run p (take n bs)) < suc n = rw h at lt in
      rw h (ap suc (run_kept p bs n (omega arith) (omega arith)))
  | inr h ↦ rw h refl
]

drop_within : (s : List ℕ) (n i : ℕ) → i ≤ n → drop i (take n s) ≡ take (n - i) (drop i s)
drop_within s n i le = let e : n ≡ i + (n - i) = omega arith in ap (λ x. drop i (take x s)) e ∙ drop-take i (n - i) s

-- runs that end before the cut are the same in the first k bytes
past_cut : (p : ℕ → Bool) (s : List ℕ) (k i : ℕ) → past p s i < k → past p (take k s) i ≡ past p s i
past_cut p s k i lt = ap (λ x. i + run p x) (drop_within s k i (omega arith))
    ∙ ap (λ x. i + x) (run_take p (drop i s) (k - i) (omega arith))

past_kept : (p : ℕ → Bool) (s : List ℕ) (k i : ℕ) → k ≤ length s → past p (take k s) i < k
    → past p s i ≡ past p (take k s) i
past_kept p s k i le lt =
    let d = drop_within s k i (omega arith) in
    let n : i + run p (take (k - i) (drop i s)) ≡ past p (take k s) i = ap (λ x. i + run p x) (sym d) in
    ap (λ x. i + x) (run_kept p (drop i s) (k - i) (omega arith) (omega (arith, length-drop i s))) ∙ n

has_cut : (s : List ℕ) (k i c : ℕ) → i < k → has (take k s) i c ≡ has s i c
has_cut [] zero i c lt = absurd (omega arith)
has_cut [] (suc k) i c lt = refl
has_cut (b ∷ bs) zero i c lt = absurd (omega arith)
has_cut (b ∷ bs) (suc k) zero c lt = refl
has_cut (b ∷ bs) (suc k) (suc i) c lt = has_cut bs k i c (omega arith)

begins_cut : (p : ℕ → Bool) (s : List ℕ) (k : ℕ) → 0 < k → begins p (take k s) ≡ begins p s
begins_cut p [] zero lt = refl
begins_cut p [] (suc k) lt = refl
begins_cut p (b ∷ bs) zero lt = absurd (omega arith)
begins_cut p (b ∷ bs) (suc k) lt = refl

-- two lists that have the same runs and the same bytes before the place k
record Alike (u v : List ℕ) (k : ℕ) : Type 0 where
  runs : (p : ℕ → Bool) (i : ℕ) → past p v i < k → past p u i ≡ past p v i
  bytes : (i c : ℕ) → i < k → has u i c ≡ has v i c

digits_same : (u v : List ℕ) (k i : ℕ) → Alike u v k → (digits_from v i).end < k → digits_from u i ≡ digits_from v i
digits_same u v k i h lt =
    let a = past is_space v i in
    let e : past is_space u i ≡ a = h.runs is_space i (omega arith) in
    ap (λ (x : ℕ). record { start = x; end = past is_digit u x }) e
    ∙ ap (λ (x : ℕ). record { start = a; end = x }) (h.runs is_digit a lt)

by_same : (u v : List ℕ) (k c : ℕ) (least : Span) (b : Bool) → Alike u v k → (parts_by v least c b).close < k
    → parts_by u least c b ≡ parts_by v least c b
by_same u v k c least false h lt = refl
by_same u v k c least true h lt =
    let m = digits_from v (c + 1) in
    let e = digits_same u v k (c + 1) h (omega arith) in
    ap (λ (x : Span). record { least = least; comma = true; most = x; close = past is_space u x.end }) e
    ∙ ap (λ (x : ℕ). record { least = least; comma = true; most = m; close = x }) (h.runs is_space m.end lt)

comma_le : (v : List ℕ) (least : Span) (c : ℕ) (b : Bool) → c ≤ (parts_by v least c b).close
comma_le v least c false = omega arith
comma_le v least c true = omega arith

parts_same : (u v : List ℕ) (k : ℕ) → Alike u v k → (parts v).close < k → parts u ≡ parts v
parts_same u v k h lt =
    let l = digits_from v 0 in
    let c = past is_space v l.end in
    let le = comma_le v l c (has v c 44) in
    let e = digits_same u v k 0 h (omega arith) in
    let f : past is_space u l.end ≡ c = h.runs is_space l.end (omega arith) in
    ap (λ (x : Span). parts_by u x (past is_space u x.end) (has u (past is_space u x.end) 44)) e
    ∙ ap (λ (x : ℕ). parts_by u l x (has u x 44)) f
    ∙ ap (parts_by u l c) (h.bytes c 44 (omega arith))
    ∙ by_same u v k c l (has v c 44) h lt

cut_alike : (s : List ℕ) (k : ℕ) → Alike (take k s) s k
cut_alike s k = record { runs = λ p i lt. past_cut p s k i lt; bytes = λ i c lt. has_cut s k i c lt }

kept_alike : (s : List ℕ) (k : ℕ) → k ≤ length s → Alike s (take k s) k
kept_alike s k le = record { runs = λ p i lt. past_kept p s k i le lt; bytes = λ i c lt. sym (has_cut s k i c lt) }

-- the blanks at the front end before the closing brace is due
first_le : (v : List ℕ) → past is_space v 0 ≤ (parts v).close
first_le v = let l = digits_from v 0 in let c = past is_space v l.end in omega (arith, comma_le v l c (has v c 44))

begun_same : (s : List ℕ) (k : ℕ) → past is_space s 0 < k → past is_space (take k s) 0 ≡ past is_space s 0
    → begins_bounds (take k s) ≡ begins_bounds s
begun_same s k lt e =
    let a = past is_space s 0 in
    ap (λ x. begins (λ b. is_digit b || nat_eq b 44) (drop x (take k s))) e
    ∙ ap (begins (λ b. is_digit b || nat_eq b 44)) (drop_within s k a (omega arith))
    ∙ begins_cut (λ b. is_digit b || nat_eq b 44) (drop a s) (k - a) (omega arith)

pub record BoundsFit (b : ℕ) (bs : List ℕ) (m : ℕ) : Type 0 where
  pub byte : b ≡ 123
  pub begun : begins_bounds bs ≡ true
  pub closed : has bs (parts bs).close 125 ≡ true
  pub size : m ≡ (parts bs).close + 2

pub bounds_fit : (b : ℕ) (bs : List ℕ) (m : ℕ) → m ≤ length (b ∷ bs) → AreBounds (take m (b ∷ bs)) → BoundsFit b bs m
bounds_fit b bs zero le h = let f : [] ≡ 123 ∷ h.rest = h.is in absurd (cc)
bounds_fit b bs (suc k) le h =
    let s = head_same b 123 (take k bs) h.rest h.is in
    let v = take k bs in
    let n : length v ≡ k = length-take-le k bs (omega arith) in
    let w : length v ≡ (parts v).close + 1 = subst (λ x. length x ≡ (parts x).close + 1) (sym s.1) h.whole in
    let a = kept_alike bs k (omega arith) in
    let same : parts bs ≡ parts v = parts_same bs v k a (omega arith) in
    let c : (parts bs).close ≡ (parts v).close = ap (λ (x : Parts). x.close) same in
    let blanks = first_le v in
    let q : past is_space bs 0 ≡ past is_space v 0 = a.runs is_space 0 (omega arith) in
    let g : begins_bounds v ≡ true = subst (λ x. begins_bounds x ≡ true) (sym s.1) h.begun in
    let d : has v (parts v).close 125 ≡ true = subst (λ x. has x (parts x).close 125 ≡ true) (sym s.1) h.closed in
    record {
      byte = s.0;
      begun = sym (begun_same bs k (omega arith) (sym q)) ∙ g;
      closed = ap (λ x. has bs x 125) c ∙ sym (has_cut bs k (parts v).close 125 (omega arith)) ∙ d;
      size = omega arith;
    }

pub bounds_made : (b : ℕ) (bs : List ℕ) → b ≡ 123 → begins_bounds bs ≡ true → has bs (parts bs).close 125 ≡ true
    → AreBounds (take ((parts bs).close + 2) (b ∷ bs))
bounds_made b bs e g h =
    let c = (parts bs).close in
    let k = c + 1 in
    let i = (has_is bs c 125 h).0 in
    let v = take k bs in
    let a = cut_alike bs k in
    let same : parts v ≡ parts bs = parts_same v bs k a (omega arith) in
    let z : (parts v).close ≡ c = ap (λ (x : Parts). x.close) same in
    let blanks = first_le bs in
    let n : c + 2 ≡ suc k = omega arith in
    record {
      rest = v;
      is = ap (λ x. take x (b ∷ bs)) n ∙ ap (λ x. x ∷ v) e;
      begun = begun_same bs k (omega arith) (a.runs is_space 0 (omega arith)) ∙ g;
      closed = ap (λ x. has v x 125) z ∙ has_cut bs k c 125 (omega arith) ∙ h;
      whole = length-take-le k bs (omega arith) ∙ ap (λ x. x + 1) (sym z);
    }

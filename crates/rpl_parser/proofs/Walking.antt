-- A module is walked over piece by piece.
use Rattle.std.proofs.Common.{◌≡◌, ◌≢◌, ℕ, zero, suc, ◌+◌, ◌-◌, ◌<◌, ◌≤◌, List, [], ◌∷◌, length, take, drop, Ok, Err}
use Rattle.std.proofs.Common.{refl, sym, ap, ◌∙◌, arith}
use Rattle.std.specs.Prelude.{Bool, Option, Some, None, Result}
use Rattle.std.proofs.lemmas.List.{length-drop, length-take-le, get_or-drop, get_or-take}
use Rattle.std.proofs.lemmas.Option.{slice_get_read, slice_get_within, get_or_from_slice_get}
use Rattle.rpl_lexer.specs.declared.token.Token.{Token as Lexeme}
use Rattle.rpl_parser.specs.Levels.{ground_level, too_deep}
use Rattle.rpl_parser.specs.Lines.{line_of}
use Rattle.rpl_parser.specs.Spelling.{Line}
use Rattle.rpl_parser.specs.Tokens.{AllStand, tokens_of, first_place, first_bad}
use Rattle.rpl_parser.specs.inside.Read.{Piece}
use Rattle.rpl_parser.specs.inside.Read as R
use Rattle.rpl_parser.specs.Pieces.{piece_len, closes_later}
use Rattle.rpl_parser.specs.Walks.{Walk, by_place, by_line, by_level, place, step, finish, go_on, walk}
use Rattle.rpl_parser.specs.declared.fault.ParseFault.{ParseFault}
use Rattle.rpl_syntax.specs.Modules.{ParsedModule}

-- tokens that stand in a text still do when some are dropped from their front
pub stands_drop : (s : List ℕ) (ts : List Lexeme) (k : ℕ) → AllStand s ts → AllStand s (drop k ts)
stands_drop s ts k h i t e =
    let lt = slice_get_within (drop k ts) i t e in
    let inside : k + i < length ts = omega (arith, lt, length-drop k ts) in
    h (k + i) t (slice_get_read ts (length ts) (k + i) t refl inside (sym (get_or_from_slice_get (drop k ts) i t t e)
    ∙ get_or-drop k ts i t))

-- tokens that stand in a text still do when only some at their front are taken
pub stands_take : (s : List ℕ) (ts : List Lexeme) (k : ℕ) → k ≤ length ts → AllStand s ts → AllStand s (take k ts)
stands_take s ts k le h i t e =
    let lt = slice_get_within (take k ts) i t e in
    let below : i < k = omega (arith, lt, length-take-le k ts le) in
    let inside : i < length ts = omega (arith, below, le) in
    h i t (slice_get_read ts (length ts) i t refl inside (sym (get_or_from_slice_get (take k ts) i t t e)
    ∙ get_or-take k ts i t below))

pub tokens_len : (s : List ℕ) (ts : List Lexeme) → length (tokens_of s ts) ≡ length ts
tokens_len s [] = refl
tokens_len s (t ∷ ts) = let h = tokens_len s ts in omega arith

-- ---- one piece

abbrev then_placed : (at : ℕ) → Walk → (closes : Bool) → Result Piece ParseFault → Result Walk ParseFault
then_placed at w c (Ok x) = by_place at x.1 (place w at c x.0)
then_placed at w c (Err f) = Err f

step_by : (at : ℕ) (bad : Option ParseFault) (w : Walk) (c : Bool) (deep : Option ℕ) (o : Option Line)
    → by_level deep (by_line at bad w c o) ≡ then_placed at w c (R.by_level deep (R.by_line at bad o))
step_by at bad w c (Some d) o = refl
step_by at bad w c None None = refl
step_by at bad w c None (Some l) = refl

module _ (s : List ℕ) (w : Walk) (c : Bool) (p : List Lexeme) where
  step_split : step s w c p ≡ then_placed (first_place p) w c (R.piece_of s p)
  step_split = step_by (first_place p) (first_bad s p) w c (too_deep s ground_level p) (line_of (tokens_of s p))

  -- after a piece that is a statement
  pub step_placed : (l : Line) (b : Option ParseFault) → R.piece_of s p ≡ Ok (l, b)
      → step s w c p ≡ by_place (first_place p) b (place w (first_place p) c l)
  step_placed l b e = step_split ∙ ap (then_placed (first_place p) w c) e

  -- the fault of a piece that is none
  pub step_refused : (f : ParseFault) → R.piece_of s p ≡ Err f → step s w c p ≡ Err f
  step_refused f e = step_split ∙ ap (then_placed (first_place p) w c) e

-- ---- the walk

pub walk_end : (n : ℕ) (s : List ℕ) (w : Walk) (ts : List Lexeme) → length (tokens_of s ts) ≡ 0
    → walk n s w ts ≡ finish w
walk_end zero s w ts e = refl
walk_end (suc n) s w [] e = refl
walk_end (suc n) s w (t ∷ ts) e = absurd (omega (arith, e))

module _ (n m : ℕ) (s : List ℕ) (w : Walk) (e : n ≡ suc m) where
  pub walk_on : (v : Walk) (ts : List Lexeme) → length (tokens_of s ts) ≢ 0
      → step s w (closes_later (tokens_of s (drop (piece_len (tokens_of s ts)) ts)))
      (take (piece_len (tokens_of s ts)) ts) ≡ Ok v → walk n s w ts ≡ walk m s v (drop (piece_len (tokens_of s ts)) ts)
  walk_on v [] ne h = absurd (ne refl)
  walk_on v (t ∷ ts) ne h =
      ap (λ j. walk j s w (t ∷ ts)) e
      ∙ ap (λ r. go_on r (λ u. walk m s u (drop (piece_len (tokens_of s (t ∷ ts))) (t ∷ ts)))) h

  pub walk_stop : (f : ParseFault) (ts : List Lexeme) → length (tokens_of s ts) ≢ 0
      → step s w (closes_later (tokens_of s (drop (piece_len (tokens_of s ts)) ts)))
      (take (piece_len (tokens_of s ts)) ts) ≡ Err f → walk n s w ts ≡ Err f
  walk_stop f [] ne h = absurd (ne refl)
  walk_stop f (t ∷ ts) ne h =
      ap (λ j. walk j s w (t ∷ ts)) e
      ∙ ap (λ r. go_on r (λ u. walk m s u (drop (piece_len (tokens_of s (t ∷ ts))) (t ∷ ts)))) h

-- the pieces that are left are walked over as all are
pub record Left (s : List ℕ) (w : Walk) (left : List Lexeme) (answer : Result ParsedModule ParseFault) : Type 0 where
  pub steps : ℕ
  pub enough : length left < steps
  pub same : walk steps s w left ≡ answer

pub none_left : (s : List ℕ) (w : Walk) (left : List Lexeme) (answer : Result ParsedModule ParseFault)
    → Left s w left answer → length left ≡ 0 → answer ≡ finish w
none_left s w left answer l e = sym l.same ∙ walk_end l.steps s w left (tokens_len s left ∙ e)

-- the first of them was split off
pub record Split (s : List ℕ) (left piece rest : List Lexeme) (k : ℕ) : Type 0 where
  pub len : k ≡ piece_len (tokens_of s left)
  pub front : piece ≡ take k left
  pub back : rest ≡ drop k left
  pub some : 0 < k
  pub inside : k ≤ length left

pub split_of : (s : List ℕ) (left piece rest : List Lexeme) (k : ℕ) → 0 < length left → k ≡ piece_len (tokens_of s left)
    → (0 < length left → 0 < k) → k ≤ length left → piece ≡ take k left → rest ≡ drop k left → Split s left piece rest k
split_of s left piece rest k more len some inside front back =
    record { len = len; front = front; back = back; some = some more; inside = inside }

module _ (s : List ℕ) (w : Walk) (left piece rest : List Lexeme) (k : ℕ) (answer : Result ParsedModule ParseFault) (h :
    Split s left piece rest k) (l : Left s w left answer) where
  less : l.steps ≡ suc (l.steps - 1)
  less = let e = l.enough in omega (arith, e)

  more : length (tokens_of s left) ≢ 0
  more = λ e. let n = tokens_len s left in let a = h.some in let b = h.inside in absurd (omega (arith, e, n, a, b))

  rest_is : drop (piece_len (tokens_of s left)) left ≡ rest
  rest_is = ap (λ j. drop j left) (sym h.len) ∙ sym h.back

  piece_is : take (piece_len (tokens_of s left)) left ≡ piece
  piece_is = ap (λ j. take j left) (sym h.len) ∙ sym h.front

  step_is : step s w (closes_later (tokens_of s (drop (piece_len (tokens_of s left)) left)))
      (take (piece_len (tokens_of s left)) left) ≡ step s w (closes_later (tokens_of s rest)) piece
  step_is = ap (λ r. step s w (closes_later (tokens_of s r)) (take (piece_len (tokens_of s left)) left)) rest_is
      ∙ ap (step s w (closes_later (tokens_of s rest))) piece_is

  shorter : length rest < length left
  shorter = let e = ap length h.back in let d = length-drop k left in let a = h.some in let b = h.inside in
      omega (arith, e, d, a, b)

  pub left_on : (v : Walk) → step s w (closes_later (tokens_of s rest)) piece ≡ Ok v → Left s v rest answer
  left_on v e = record {
    steps = l.steps - 1;
    enough = let a = shorter in let b = l.enough in omega (arith, a, b);
    same =
        ap (walk (l.steps - 1) s v) (sym rest_is)
        ∙ (sym (walk_on l.steps (l.steps - 1) s w less v left more (step_is ∙ e)) ∙ l.same);
  }

  pub left_stop : (f : ParseFault) → step s w (closes_later (tokens_of s rest)) piece ≡ Err f → answer ≡ Err f
  left_stop f e = sym l.same ∙ walk_stop l.steps (l.steps - 1) s w less f left more (step_is ∙ e)

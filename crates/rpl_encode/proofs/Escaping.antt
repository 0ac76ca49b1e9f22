-- What stands for the bytes of a line in a string of JSON.
use Rattle.std.proofs.Common.{inl, inr, ◌≡◌, ℕ, suc, true, ◌+◌, ◌-◌, ◌/◌, ◌%◌, ◌<◌, ◌≤◌, List, [], ◌∷◌, ◌++◌, length}
use Rattle.std.proofs.Common.{get_or, take, drop, set, min, refl, sym, ap, ◌∙◌, append-nil, length-append, arith}
use Rattle.std.specs.Prelude.{slice_range, ◌&&◌}
use Rattle.std.specs.Char.{digit_char}
use Rattle.std.proofs.lemmas.Bool.{cases_eq, lt-ltb, le-ltb}
use Rattle.std.proofs.lemmas.List.{take-append-drop, drop-drop, drop_all, drop_min, length-drop, length-set}
use Rattle.std.proofs.lemmas.List.{length-take, take_min, get_or-set_same, get_or-set_other}
use Rattle.std.proofs.lemmas.Grind.{flat_map-append}
use Rattle.std.proofs.Math.Seq.{drop-cons, take-append_seam, drop-append_seam}
use Rattle.std.proofs.lemmas.Slice.{between_is}
use Rattle.json.specs.Print.{escape, escape_byte, escape_letter}
use Rattle.rpl_print.specs.Quoted.{is_plain, is_plain_byte}
use Rattle.rpl_print.proofs.Plain.{escape_plain, plain_take, plain_drop}
use Rattle.rpl_encode.specs.inside.Escapes.{AreKept}

-- a part of a plain line stands for itself
pub plain_part : (s : List ℕ) (from to : ℕ) → is_plain s ≡ true → escape (slice_range s from to) ≡ slice_range s from to
plain_part s from to h = escape_plain (slice_range s from to) (ap is_plain (between_is s from to)
    ∙ plain_drop from (take to s) (plain_take to s h))

-- the three shapes of what stands for a byte
pub short : (b : ℕ) → 0 < escape_letter b → escape_byte b ≡ 92 ∷ escape_letter b ∷ []
unfolding escape_byte
short b h = rw (lt-ltb 0 (escape_letter b) h) refl

pub control : (b : ℕ) → escape_letter b ≡ 0 → b < 32
    → escape_byte b ≡ 92 ∷ 117 ∷ 48 ∷ 48 ∷ digit_char (b / 16) ∷ digit_char (b % 16) ∷ []
unfolding escape_byte
control b none lt = rw (none, lt-ltb b 32 lt) refl

pub itself : (b : ℕ) → escape_letter b ≡ 0 → 32 ≤ b → escape_byte b ≡ b ∷ []
unfolding escape_byte
itself b none le = rw (none, le-ltb b 32 le) refl

pub plain_byte : (b : ℕ) → is_plain_byte b ≡ true → escape_byte b ≡ b ∷ []
plain_byte b h = sym (append-nil (escape_byte b)) ∙ escape_plain (b ∷ []) (ap (λ t. t && true) h)

-- a part between two places that are moved into the line is that between them
pub clamped : (s : List ℕ) (from to a b : ℕ) → b ≡ min to (length s) → a ≡ min from b
    → slice_range s a b ≡ slice_range s from to
clamped s from to a b eb ea =
    between_is s a b
    ∙ ap (λ n. drop a (take n s)) eb
    ∙ ap (drop a) (take_min to s)
    ∙ ap (λ n. drop n (take to s)) (ea ∙ ap (min from) (eb ∙ sym (length-take to s)))
    ∙ drop_min from (take to s)
    ∙ sym (between_is s from to)

-- what stands for a line, cut at a place
escape_at : (s : List ℕ) (i : ℕ) → escape s ≡ escape (take i s) ++ escape (drop i s)
escape_at s i = ap escape (sym (take-append-drop i s)) ∙ flat_map-append escape_byte (take i s) (drop i s)

-- and what stands for the bytes from a place on, cut at a later one
escape_from : (s : List ℕ) (from to : ℕ) → from ≤ to → escape (drop from s) ≡ escape (slice_range s from to)
    ++ escape (drop to s)
escape_from s from to le =
    let same : from + (to - from) ≡ to = omega arith in
    escape_at (drop from s) (to - from)
    ∙ ap (λ x. escape (slice_range s from to) ++ escape x) (drop-drop (to - from) from s ∙ ap (λ n. drop n s) same)

-- the string from the place of a byte on
kept_from : (line string places : List ℕ) → AreKept line string places → (i : ℕ) → i ≤ length line
    → drop (get_or places i 0) string ≡ escape (drop i line)
kept_from line string places h i within =
    let first : get_or places 0 0 + length (escape line) ≡ length string = h.each 0 (omega arith) in
    let here = h.each i within in
    let cut = ap length (escape_at line i) ∙ length-append (escape (take i line)) (escape (drop i line)) in
    let place : get_or places i 0 ≡ get_or places 0 0 + length (escape (take i line)) =
    omega (arith, first, here, cut) in
    ap (λ n. drop n string) place
    ∙ sym (drop-drop (length (escape (take i line))) (get_or places 0 0) string)
    ∙ ap (drop (length (escape (take i line)))) (h.ends ∙ escape_at line i)
    ∙ drop-append_seam (escape (take i line)) (escape (drop i line))

-- two places are in order, and inside the string
pub in_order : (line string places : List ℕ) → AreKept line string places → (s e : ℕ) → s ≤ e → e ≤ length line
    → (get_or places s 0 ≤ get_or places e 0) × (get_or places e 0 ≤ length string)
in_order line string places h s e le within =
    let first = h.each s (omega arith) in
    let last = h.each e within in
    let cut = ap length (escape_from line s e le)
    ∙ length-append (escape (slice_range line s e)) (escape (drop e line)) in
    (omega (arith, first, last, cut), omega (arith, last))

-- what stands between them is what stands for the part of the line
pub cut_out : (line string places : List ℕ) → AreKept line string places → (s e : ℕ) → s ≤ e → e ≤ length line
    → slice_range string (get_or places s 0) (get_or places e 0) ≡ escape (slice_range line s e)
cut_out line string places h s e le within =
    let part = escape (slice_range line s e) in
    let first = h.each s (omega arith) in
    let last = h.each e within in
    let cut = ap length (escape_from line s e le) ∙ length-append part (escape (drop e line)) in
    let long : get_or places e 0 - get_or places s 0 ≡ length part = omega (arith, first, last, cut) in
    ap (λ n. take n (drop (get_or places s 0) string)) long
    ∙ ap (take (length part)) (kept_from line string places h s (omega arith) ∙ escape_from line s e le)
    ∙ take-append_seam part (escape (drop e line))

-- one more byte before those that are written
pub escape_more : (s : List ℕ) (i : ℕ) → i < length s → escape_byte (get_or s i 0) ++ escape (drop (i + 1) s)
    ≡ escape (drop i s)
escape_more s i lt =
    let one : i + 1 ≡ suc i = omega arith in
    rw one (sym (ap escape (drop-cons s i 0 lt)))

-- the place where the string ends with this
pub place_of : (string end : List ℕ) (at : ℕ) → drop at string ≡ end → at ≤ length string
    → at + length end ≡ length string
place_of string end at e le =
    let long = sym (ap length e) ∙ length-drop at string in
    omega (arith, long)

-- one more place before those that are known
pub more_places : (f : ℕ → ℕ) (places : List ℕ) (i at n most : ℕ) → i < length places → at + f i ≡ n
    → ((k : ℕ) → i + 1 ≤ k → k ≤ most → get_or places k 0 + f k ≡ n) → (k : ℕ) → i ≤ k → k ≤ most
    → get_or (set places i at) k 0 + f k ≡ n
more_places f places i at n most within here each k from to =
    elim (cases_eq k i) [
      | inl same ↦ rw same (ap (λ p. p + f i) (get_or-set_same places i at 0 within) ∙ here)
      | inr other ↦
          let more : i + 1 ≤ k = omega (arith, other) in
          ap (λ p. p + f k) (get_or-set_other places i k at 0 other) ∙ each k more to
    ]

-- the string ends with what stands for the bytes from a number on, from a place on, and the places of these are known
pub record KeptFrom (line string places : List ℕ) (left at : ℕ) : Type 0 where
  pub within : left ≤ length line
  pub inside : at ≤ length string
  pub enough : length line < length places
  pub ends : drop at string ≡ escape (drop left line)
  pub first : get_or places left 0 ≡ at
  pub each : (i : ℕ) → left ≤ i → i ≤ length line → get_or places i 0 + length (escape (drop i line)) ≡ length string

-- at first nothing is written
pub kept_none : (line string places : List ℕ) (left at : ℕ) → left ≡ length line → at ≡ length string
    → length line < length places → KeptFrom line string (set places left at) left at
kept_none line string places left at el ea enough =
    let none : drop at string ≡ escape (drop left line) =
    drop_all at string (omega (arith, ea)) ∙ sym (ap escape (drop_all left line (omega (arith, el)))) in
    let inside : at ≤ length string = omega (arith, ea) in
    let lt : left < length places = omega (arith, el) in
    record {
      within = omega (arith, el);
      inside = inside;
      enough = rw (length-set places left at) enough;
      ends = none;
      first = get_or-set_same places left at 0 lt;
      each = more_places (λ i. length (escape (drop i line))) places left at (length string) (length line) lt
          (place_of string (escape (drop left line)) at none inside) (λ k from to. absurd (omega (arith, el)));
    }

-- then one byte more
pub kept_more : (line string string' places : List ℕ) (left left' at at' : ℕ) → KeptFrom line string places left at
    → left' + 1 ≡ left → at' ≤ at → length string' ≡ length string
    → drop at' string' ≡ escape_byte (get_or line left' 0)
    ++ drop at string → KeptFrom line string' (set places left' at') left' at'
kept_more line string string' places left left' at at' h one down same written =
    let inside : at' ≤ length string' = omega (arith, h.inside) in
    let lt : left' < length line = omega (arith, h.within) in
    let room : left' < length places = omega (arith, h.enough) in
    let ends : drop at' string' ≡ escape (drop left' line) =
    written ∙ ap (λ x. escape_byte (get_or line left' 0) ++ x) (h.ends ∙ ap (λ n. escape (drop n line)) (sym one))
    ∙ escape_more line left' lt in
    record {
      within = omega arith;
      inside = inside;
      enough = rw (length-set places left' at') h.enough;
      ends = ends;
      first = get_or-set_same places left' at' 0 room;
      each = more_places (λ i. length (escape (drop i line))) places left' at' (length string') (length line) room
          (place_of string' (escape (drop left' line)) at' ends inside) (λ k from to. h.each k (omega (arith, one)) to
          ∙ sym same);
    }

-- and last all of them
pub kept_all : (line string places : List ℕ) (left at : ℕ) → KeptFrom line string places left at → left ≤ 0
    → AreKept line string places
kept_all line string places left at h none =
    let zero : left ≡ 0 = omega arith in
    let first : get_or places 0 0 ≡ at = ap (λ n. get_or places n 0) (sym zero) ∙ h.first in
    record {
      ends = ap (λ p. drop p string) first ∙ h.ends ∙ ap (λ n. escape (drop n line)) zero;
      enough = h.enough;
      each = λ i le. h.each i (omega (arith, zero)) le;
    }

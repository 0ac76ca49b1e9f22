-- Places in bytes and in characters.
use Rattle.std.proofs.Common.{◌≡◌, ℕ, zero, suc, ◌+◌, ◌-◌, ◌<◌, ◌≤◌, List, [], ◌∷◌, ◌++◌, length, take, drop, Option}
use Rattle.std.proofs.Common.{Some, None, refl, sym, ap, subst, ◌∙◌, arith, drop_at, drop-drop, length-append}
use Rattle.std.proofs.Common.{length-take-le, length-drop, append_assoc, take-append-drop}
use Rattle.std.proofs.lemmas.Bool.Decides.{nat_tests}
use Rattle.std.specs.Prelude.{Bool, true, false, nat_le, if◌then◌else◌, slice_get, chars, encode_utf8, encode_utf8_all}
use Rattle.std.specs.Prelude.{IsUtf8, IsCharBoundary}
use Rattle.std.specs.Char.{len_utf8}
use Rattle.std.specs.Str.{all_scalars}
use Rattle.std.proofs.lemmas.Str.{encodes-chars, encodes_same, encodes-append, chars-append, length-encode}
use Rattle.std.proofs.lemmas.Str.{len_utf8_bounds, cons_from_encodes, IsUtf8-take, IsCharBoundary-from_drop}
use Rattle.std.proofs.lemmas.Str.{scalars-chars}
use Rattle.rpl_text.specs.Places.{at, index, IsPlace, step_from, step_by, back_from, place_from}

-- no characters have no bytes
pub at_zero : (t : List ℕ) → at t 0 ≡ 0
at_zero [] = refl
at_zero (c ∷ cs) = refl

-- at most all characters of a text begin before a place
pub index_le : (t : List ℕ) (p : ℕ) → index t p ≤ length t
index_le [] p = omega arith
index_le (c ∷ cs) zero = omega arith
index_le (c ∷ cs) (suc p) = let h = index_le cs (suc p - len_utf8 c) in omega arith

index_past : (c p : ℕ) (cs : List ℕ) → index (c ∷ cs) (len_utf8 c + p) ≡ suc (index cs p)
index_past c p cs =
    let b = len_utf8_bounds c in
    let n : len_utf8 c + p ≡ suc (len_utf8 c + p - 1) = omega arith in
    let m : suc (len_utf8 c + p - 1) - len_utf8 c ≡ p = omega arith in
    ap (index (c ∷ cs)) n ∙ ap (λ x. suc (index cs x)) m

-- a character's place gives its number back
pub index_at : (t : List ℕ) (i : ℕ) → i ≤ length t → index t (at t i) ≡ i
index_at [] i le = let e : 0 ≡ i = omega arith in e
index_at (c ∷ cs) zero le = refl
index_at (c ∷ cs) (suc i) le = index_past c (at cs i) cs ∙ ap suc (index_at cs i (omega arith))

-- a character begins, or the text ends, after the bytes of its first characters
pub place_at : (t : List ℕ) (i : ℕ) → i ≤ length t → IsPlace t (at t i)
place_at t i le = ap (at t) (index_at t i le)

-- a place as that of a character
pub record Stands (t : List ℕ) (p i : ℕ) : Type 0 where
  pub within : i ≤ length t
  pub is : p ≡ at t i
  pub number : index t p ≡ i

pub stands : (t : List ℕ) (p : ℕ) → IsPlace t p → Stands t p (index t p)
stands t p h = record { within = index_le t p; is = sym h; number = refl }

pub stands_at : (t : List ℕ) (p i : ℕ) → i ≤ length t → p ≡ at t i → Stands t p i
stands_at t p i le e = record { within = le; is = e; number = ap (index t) e ∙ index_at t i le }

-- one more character adds as many bytes as it is encoded in
pub at_suc : (t : List ℕ) (i c : ℕ) → slice_get t i ≡ Some c → at t (i + 1) ≡ at t i + len_utf8 c
at_suc [] i c e = absurd (cc)
at_suc (d ∷ cs) zero c e =
    let same : d ≡ c = cc in
    let z = at_zero cs in
    subst (λ x. len_utf8 d + at cs 0 ≡ 0 + len_utf8 x) same (omega arith)
at_suc (d ∷ cs) (suc i) c e =
    let h : at cs (i + 1) ≡ at cs i + len_utf8 c = at_suc cs i c e in
    let n : at cs (suc i) ≡ at cs (i + 1) = let m : suc i ≡ i + 1 = omega arith in ap (at cs) m in
    let g : len_utf8 d + at cs (suc i) ≡ len_utf8 d + at cs i + len_utf8 c = omega arith in
    let k : suc i + 1 ≡ suc (suc i) = omega arith in
    ap (at (d ∷ cs)) k ∙ g

pub get_some : (t : List ℕ) (i c : ℕ) (es : List ℕ) → drop i t ≡ c ∷ es → (slice_get t i ≡ Some c) × (i < length t)
get_some [] zero c es e = absurd (cc)
get_some [] (suc i) c es e = absurd (cc)
get_some (d ∷ cs) zero c es e = (cc, omega arith)
get_some (d ∷ cs) (suc i) c es e = let h = get_some cs i c es e in (h.0, omega (arith, h.1))

get_none : (t : List ℕ) (i : ℕ) → length t ≤ i → slice_get t i ≡ None
get_none [] i le = refl
get_none (d ∷ cs) zero le = absurd (omega arith)
get_none (d ∷ cs) (suc i) le = get_none cs i (omega arith)

-- all characters of a text have as many bytes as the encoded text
pub at_length : (t : List ℕ) → at t (length t) ≡ length (encode_utf8_all t)
at_length [] = refl
at_length (c ∷ cs) = let h = at_length cs in let l = length-encode c in
    omega (arith, length-append (encode_utf8 c) (encode_utf8_all cs))

pub drop_at_char : (t : List ℕ) (i : ℕ) → drop (at t i) (encode_utf8_all t) ≡ encode_utf8_all (drop i t)
drop_at_char [] zero = refl
drop_at_char [] (suc i) = refl
drop_at_char (c ∷ cs) zero = refl
drop_at_char (c ∷ cs) (suc i) =
    sym (drop-drop (at cs i) (len_utf8 c) (encode_utf8_all (c ∷ cs)))
    ∙ ap (drop (at cs i)) (drop_at (encode_utf8 c) (encode_utf8_all cs) (len_utf8 c) (length-encode c))
    ∙ drop_at_char cs i

-- one step on the bytes, for the characters of a text
pub step_some : (bs rest : List ℕ) (p c : ℕ) → IsUtf8 bs → IsPlace (chars bs) p → drop p bs ≡ encode_utf8 c ++ rest
    → step_from (chars bs) (index (chars bs) p) ≡ Some (c, p + len_utf8 c)
step_some bs rest p c u h e =
    let t = chars bs in
    let i = index t p in
    let d : encode_utf8_all (drop i t) ≡ encode_utf8 c ++ rest = sym (drop_at_char t i)
    ∙ ap (drop (at t i)) (encodes-chars bs u) ∙ ap (λ x. drop x bs) h ∙ e in
    let k = cons_from_encodes (drop i t) rest c d in
    let g = get_some t i c k.0 k.1 in
    let n : at t (i + 1) ≡ p + len_utf8 c = at_suc t i c g.0 ∙ ap (λ x. x + len_utf8 c) h in
    ap (λ o. step_by o (at t (i + 1))) g.0 ∙ ap (λ x. Some (c, x)) n

pub step_none : (bs : List ℕ) (p : ℕ) → IsUtf8 bs → IsPlace (chars bs) p → length bs ≤ p
    → step_from (chars bs) (index (chars bs) p) ≡ None
step_none bs p u h le =
    let t = chars bs in
    let l : at t (length t) ≡ length bs = at_length t ∙ ap length (encodes-chars bs u) in
    ap (λ o. step_by o (at t (index t p + 1))) (get_none t (index t p) (last_index t p h (omega arith)))
  where
    last_index : (t : List ℕ) (p : ℕ) → IsPlace t p → at t (length t) ≤ p → length t ≤ index t p
    last_index [] p h le = omega arith
    last_index (c ∷ cs) zero h le = let b = len_utf8_bounds c in absurd (omega arith)
    last_index (c ∷ cs) (suc p) h le = let k = last_index cs (suc p - len_utf8 c) (omega arith) (omega arith) in
        omega arith

pub scalars_drop : (t : List ℕ) (i : ℕ) → all_scalars t ≡ true → all_scalars (drop i t) ≡ true
scalars_drop [] zero e = e
scalars_drop [] (suc i) e = e
scalars_drop (c ∷ cs) zero e = e
scalars_drop (c ∷ cs) (suc i) e = scalars_drop cs i (grind arith)

-- the first characters of a text have at most as many bytes as all of them
pub at_le : (t : List ℕ) (i : ℕ) → at t i ≤ at t (length t)
at_le [] i = omega arith
at_le (c ∷ cs) zero = omega arith
at_le (c ∷ cs) (suc i) = let h = at_le cs i in omega arith

-- all characters of a UTF-8 text have as many bytes as the text
pub at_end : (bs : List ℕ) → IsUtf8 bs → at (chars bs) (length (chars bs)) ≡ length bs
at_end bs u = at_length (chars bs) ∙ ap length (encodes-chars bs u)

-- a place is where the bytes may be cut
pub place_cut : (bs : List ℕ) (p : ℕ) → IsUtf8 bs → IsPlace (chars bs) p → IsCharBoundary bs p
place_cut bs p u h =
    let t = chars bs in
    let i = index t p in
    let e : encode_utf8_all (drop i t) ≡ drop p bs = sym (drop_at_char t i) ∙ ap (drop (at t i)) (encodes-chars bs u)
    ∙ ap (λ x. drop x bs) h in
    let l : at t (length t) ≡ length bs = at_end bs u in
    let m : at t i ≤ at t (length t) = at_le t i in
    IsCharBoundary-from_drop bs p (omega arith) (drop i t, (scalars_drop t i (scalars-chars bs u), e))

at_front : (ds es : List ℕ) → at (ds ++ es) (length ds) ≡ length (encode_utf8_all ds)
at_front [] es = at_zero es
at_front (c ∷ cs) es = let h = at_front cs es in let l = length-encode c in
    omega (arith, length-append (encode_utf8 c) (encode_utf8_all cs))

pub cut_place : (bs : List ℕ) (p : ℕ) → IsUtf8 bs → IsCharBoundary bs p → IsPlace (chars bs) p
cut_place bs p u h =
    let ds = chars (take p bs) in
    let es = chars (drop p bs) in
    let v = IsUtf8-take bs p u h in
    let t = chars bs in
    let whole : t ≡ ds ++ es = ap chars (sym (take-append-drop p bs)) ∙ chars-append (take p bs) (drop p bs) v in
    let l : length (encode_utf8_all ds) ≡ p = ap length (encodes-chars (take p bs) v) ∙ length-take-le p bs h.0 in
    let here : at t (length ds) ≡ p = ap (λ x. at x (length ds)) whole ∙ at_front ds es ∙ l in
    let fits : length ds ≤ length t = omega (arith, ap length whole, length-append ds es) in
    subst (IsPlace t) here (place_at t (length ds) fits)

-- the place of one character before
pub before_at : (bs front : List ℕ) (p c : ℕ) → IsUtf8 bs → IsUtf8 front → IsPlace (chars bs) p
    → take p bs ≡ front ++ encode_utf8 c
    → length front ≡ at (chars bs) (index (chars bs) p - 1)
before_at bs front p c u v h e =
    let t = chars bs in
    let i = index t p in
    let ds = chars front in
    let rest : drop p bs ≡ encode_utf8_all (drop i t) = ap (λ x. drop x bs) (sym h)
    ∙ ap (drop (at t i)) (sym (encodes-chars bs u)) ∙ drop_at_char t i in
    let start : take p bs ≡ encode_utf8_all ds ++ encode_utf8 c = e
    ∙ ap (λ x. x ++ encode_utf8 c) (sym (encodes-chars front v)) in
    let bytes : encode_utf8_all t ≡ encode_utf8_all (ds ++ c ∷ drop i t) =
    encodes-chars bs u ∙ sym (take-append-drop p bs) ∙ ap (λ x. x ++ drop p bs) start
    ∙ ap (λ x. (encode_utf8_all ds ++ encode_utf8 c) ++ x) rest
    ∙ append_assoc (encode_utf8_all ds) (encode_utf8 c) (encode_utf8_all (drop i t))
    ∙ sym (encodes-append ds (c ∷ drop i t)) in
    let same : t ≡ ds ++ c ∷ drop i t = encodes_same t (ds ++ c ∷ drop i t) bytes in
    let sizes : length t ≡ length ds + suc (length (drop i t)) = ap length same ∙ length-append ds (c ∷ drop i t) in
    let le : i ≤ length t = index_le t p in
    let one : length ds ≡ i - 1 = omega (arith, length-drop i t) in
    let here : at t (length ds) ≡ length front = ap (λ x. at x (length ds)) same ∙ at_front ds (c ∷ drop i t)
    ∙ ap length (encodes-chars front v) in
    sym here ∙ ap (at t) one

pub next_end : (bs part rest : List ℕ) (p c : ℕ) → p ≤ length bs → drop p bs ≡ encode_utf8 c ++ rest
    → length bs - length rest ≡ p + len_utf8 c
next_end bs part rest p c le e =
    let l = length-encode c in
    let sizes : length (drop p bs) ≡ length (encode_utf8 c) + length rest = ap length e
    ∙ length-append (encode_utf8 c) rest in
    omega (arith, length-drop p bs)

pub at_positive : (t : List ℕ) (i : ℕ) → i ≤ length t → at t i ≡ 0 → i ≡ 0
at_positive [] i le e = let n : i ≡ 0 = omega arith in n
at_positive (c ∷ cs) zero le e = refl
at_positive (c ∷ cs) (suc i) le e = let b = len_utf8_bounds c in absurd (omega arith)

-- the number of a character of a text is below the number of its characters
pub get_below : (t : List ℕ) (i c : ℕ) → slice_get t i ≡ Some c → i < length t
get_below [] i c e = absurd (cc)
get_below (d ∷ cs) zero c e = omega arith
get_below (d ∷ cs) (suc i) c e = let h = get_below cs i c e in omega arith

some_by : (t : List ℕ) (o : Option ℕ) (i c p n : ℕ) → slice_get t i ≡ o → Some (c, p) ≡ step_by o n
    → (p ≡ n) × (slice_get t i ≡ Some c)
some_by t None i c p n q e = absurd (cc)
some_by t (Some d) i c p n q e = let k : ◌≡◌ {A = ℕ × ℕ} (c, p) (d, n) = cc in
    (ap (λ x. x.1) k, q ∙ ap (λ x. Some (x.0)) (sym k))

-- what a step says of the next place
pub some_step : (t : List ℕ) (i c p : ℕ) → Some (c, p) ≡ step_from t i → (p ≡ at t (i + 1)) × (slice_get t i ≡ Some c)
some_step t i c p e = some_by t (slice_get t i) i c p (at t (i + 1)) refl e

none_by : (o : Option ℕ) (n : ℕ) → None ≡ step_by o n → o ≡ None
none_by None n e = refl
none_by (Some d) n e = absurd (cc)

get_above : (t : List ℕ) (i : ℕ) → slice_get t i ≡ None → length t ≤ i
get_above [] i e = omega arith
get_above (d ∷ cs) zero e = absurd (cc)
get_above (d ∷ cs) (suc i) e = let h = get_above cs i e in omega arith

-- if no step is possible, no character is left
pub none_step : (t : List ℕ) (i : ℕ) → None ≡ step_from t i → (slice_get t i ≡ None) × (length t ≤ i)
none_step t i e = let n = none_by (slice_get t i) (at t (i + 1)) e in (n, get_above t i n)

-- the walk back
pub back_place : (t : List ℕ) (p k a : ℕ) → a ≡ at t (index t p - k) → index t a ≡ index t p - k
back_place t p k a e = let l = index_le t p in ap (index t) e ∙ index_at t (index t p - k) (omega arith)

pub back_next : (t : List ℕ) (p k a b : ℕ) → a ≡ at t (index t p - k) → k ≤ index t p → (a ≡ 0 → ⊥)
    → b ≡ at t (index t a - 1) → (b ≡ at t (index t p - (k + 1))) × (k + 1 ≤ index t p)
back_next t p k a b e le n g =
    let m : index t p - k ≡ 0 → ⊥ = λ z. n (e ∙ ap (at t) z ∙ at_zero t) in
    let i = back_place t p k a e in
    let j : index t a - 1 ≡ index t p - (k + 1) = omega arith in
    (g ∙ ap (at t) j, omega arith)

pub back_stop : (t : List ℕ) (p k n a : ℕ) → a ≡ at t (index t p - k) → k ≤ index t p → k < n → a ≡ 0
    → None ≡ back_from t (index t p) n
back_stop t p k n a e le lt z =
    let l = index_le t p in
    let m : index t p - k ≡ 0 = at_positive t (index t p - k) (omega arith) (sym e ∙ z) in
    let q : nat_le n (index t p) ≡ false = grind (arith, nat_tests) in
    ap (λ b. if b then Some (at t (index t p - n)) else None) (sym q)

pub back_done : (t : List ℕ) (i n : ℕ) → n ≤ i → Some (at t (i - n)) ≡ back_from t i n
back_done t i n le =
    let q : nat_le n i ≡ true = grind (arith, nat_tests) in
    ap (λ b. if b then Some (at t (i - n)) else None) (sym q)

-- a text has no place for a number of characters beyond its length
pub place_stop : (t : List ℕ) (n : ℕ) → length t < n → None ≡ place_from t n
place_stop t n lt =
    let q : nat_le n (length t) ≡ false = grind (arith, nat_tests) in
    ap (λ b. if b then Some (at t n) else None) (sym q)

-- a text has a place for each number of characters up to its length
pub place_done : (t : List ℕ) (n : ℕ) → n ≤ length t → Some (at t n) ≡ place_from t n
place_done t n le =
    let q : nat_le n (length t) ≡ true = grind (arith, nat_tests) in
    ap (λ b. if b then Some (at t n) else None) (sym q)

-- a step over one character
pub record Next (t : List ℕ) (p c n : ℕ) : Type 0 where
  pub char : slice_get t (index t p) ≡ Some c
  pub number : index t n ≡ index t p + 1
  pub place : IsPlace t n

-- a step over a character says which it is, and gives the next place
pub next_is : (t : List ℕ) (p c n : ℕ) → Some (c, n) ≡ step_from t (index t p) → Next t p c n
next_is t p c n e =
    let s = some_step t (index t p) c n e in
    let b = get_below t (index t p) c s.1 in
    let le : index t p + 1 ≤ length t = omega arith in
    record {
      char = s.1;
      number = ap (index t) s.0 ∙ index_at t (index t p + 1) le;
      place = subst (IsPlace t) (sym s.0) (place_at t (index t p + 1) le);
    }

-- k characters back
pub back_is : (t : List ℕ) (i k q : ℕ) → i ≤ length t → Some q ≡ back_from t i k
    → (nat_le k i ≡ true) × (index t q ≡ i - k) × IsPlace t q
back_is t i k q le e = by_case (nat_le k i) refl e
  where
    by_case : (b : Bool) → nat_le k i ≡ b → Some q ≡ (if b then Some (at t (i - k)) else None)
        → (nat_le k i ≡ true) × (index t q ≡ i - k) × IsPlace t q
    by_case true h e =
        let s : q ≡ at t (i - k) = cc in
        let number = ap (index t) s ∙ index_at t (i - k) (omega arith) in
        (h, number, subst (IsPlace t) (sym s) (place_at t (i - k) (omega arith)))
    by_case false h e = absurd (cc)

-- if no place is found k characters back, fewer than k characters stand before
pub back_not : (t : List ℕ) (i k : ℕ) → None ≡ back_from t i k → nat_le k i ≡ false
back_not t i k e = by_case (nat_le k i) refl e
  where
    by_case : (b : Bool) → nat_le k i ≡ b → None ≡ (if b then Some (at t (i - k)) else None)
        → nat_le k i ≡ false
    by_case true h e = absurd (cc)
    by_case false h e = h

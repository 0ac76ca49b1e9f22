-- Escapes over bytes and over characters: all that they are spelled with is ASCII.
use Rattle.std.proofs.Common.{◌≡◌, ℕ, zero, suc, ◌+◌, ◌*◌, ◌<◌, ◌≤◌, List, [], ◌∷◌, ◌++◌, length, drop, get_or, Option}
use Rattle.std.proofs.Common.{Some, None, refl, sym, ap, ap₂, subst, ◌⊎◌, ◌∙◌, arith, length-append, inl, inr}
use Rattle.std.proofs.Common.{drop-cons}
use Rattle.std.specs.Prelude.{Bool, true, false, nat_lt, nat_le, nat_eq, ◌&&◌, if◌then◌else◌, encode_utf8}
use Rattle.std.specs.Prelude.{encode_utf8_all, chars, IsUtf8, slice_get}
use Rattle.std.specs.Char.{digit_value, len_utf8}
use Rattle.std.proofs.lemmas.Bool.{cases_lt, cases_Bool, le-ltb, lt-ltb}
use Rattle.std.proofs.lemmas.Bool.Decides.{nat_tests}
use Rattle.std.proofs.lemmas.Str.{encode_ascii, inside_one, length-encode, len_utf8_bounds, len_utf8_ascii}
use Rattle.std.proofs.lemmas.Str.{encodes-chars, cons_from_encodes, IsCharBoundary-before_ascii}
use Rattle.rpl_text.specs.Escapes.{hex, numbered, is_kept, escape, shifted, placed, escape_from}
use Rattle.rpl_text.specs.Characters.{is_char}
use Rattle.rpl_text.specs.Places.{at, index, IsPlace}
use Rattle.rpl_text.proofs.Cuts.{at_drop}
use Rattle.rpl_text.proofs.Hex.{hex_cons, hex_nil}
use Rattle.rpl_text.proofs.Walks.{at_zero, at_suc, drop_at_char, cut_place, get_some}

-- the bytes of a character that isn't ASCII begin with a byte that isn't
pub record Lead (xs : List ℕ) : Type 0 where
  pub byte : ℕ
  pub rest : List ℕ
  pub is : xs ≡ byte ∷ rest
  pub high : 128 ≤ byte

lead_of : (c : ℕ) (rest xs : List ℕ) → 128 ≤ c → xs ≡ encode_utf8 c ++ rest → Lead xs
lead_of c rest [] h e =
    let b = len_utf8_bounds c in
    let l : 0 ≡ length (encode_utf8 c) + length rest = ap length e ∙ length-append (encode_utf8 c) rest in
    absurd (omega (arith, length-encode c))
lead_of c rest (x ∷ xs) h e = record {
  byte = x;
  rest = xs;
  is = refl;
  high = elim (cases_lt x 128) [
    | inl lt ↦ let b = len_utf8_bounds c in let s : c ≡ x =
        inside_one c rest (x ∷ xs) 0 e (omega (arith, length-encode c)) lt in absurd (omega arith)
    | inr ge ↦ ge
  ];
}

no_digit : (c : ℕ) → 128 ≤ c → 16 ≤ digit_value c
no_digit c h = grind (arith, nat_tests)

hex_high : (n v c : ℕ) (cs : List ℕ) → 128 ≤ c → hex (suc n) v (c ∷ cs) ≡ None
hex_high n v c cs h = hex_cons n v c cs
    ∙ ap (λ t. if t then hex n (16 * v + digit_value c) cs else None) (le-ltb (digit_value c) 16 (no_digit c h))

hex_zero : (v : ℕ) (cs : List ℕ) → hex 0 v cs ≡ Some v
unfolding hex
hex_zero v cs = refl

-- digits over the bytes of a text and over its characters
hex_encode : (n v : ℕ) (cs : List ℕ) → hex n v (encode_utf8_all cs) ≡ hex n v cs
hex_encode zero v cs = hex_zero v (encode_utf8_all cs) ∙ sym (hex_zero v cs)
hex_encode (suc n) v [] = refl
hex_encode (suc n) v (c ∷ cs) = elim (cases_lt c 128) [
  | inl lt ↦ ap (λ x. hex (suc n) v (x ++ encode_utf8_all cs)) (encode_ascii c lt) ∙ hex_cons n v c (encode_utf8_all cs)
      ∙ ap (λ x. if nat_lt (digit_value c) 16 then x else None) (hex_encode n (16 * v + digit_value c) cs)
      ∙ sym (hex_cons n v c cs)
  | inr ge ↦ let l = lead_of c (encode_utf8_all cs) (encode_utf8_all (c ∷ cs)) ge refl in
      ap (hex (suc n) v) l.is ∙ hex_high n v l.byte l.rest l.high ∙ sym (hex_high n v c cs ge)
]

-- what an escape is by its letter and the numbers after it
abbrev pub by_letter : ℕ → Option ℕ → Option ℕ → Option ℕ → Option (ℕ × ℕ)
by_letter c two four eight =
    if is_kept c then Some (c, 1)
    else (if nat_eq c 110 then Some (10, 1)
    else (if nat_eq c 114 then Some (13, 1)
    else (if nat_eq c 116 then Some (9, 1)
    else (if nat_eq c 120 then numbered 2 0x7f two
    else (if nat_eq c 117 then numbered 4 0x10_ffff four
    else (if nat_eq c 85 then numbered 8 0x10_ffff eight
    else None))))))

-- an escape is given by its letter, and by the two, four or eight digits after it
pub escape_cons : (c : ℕ) (cs : List ℕ) → escape (c ∷ cs) ≡ by_letter c (hex 2 0 cs) (hex 4 0 cs) (hex 8 0 cs)
unfolding escape
escape_cons c cs = refl

-- no bytes are no escape
pub escape_nil : escape [] ≡ None
unfolding escape
escape_nil = refl

letter_high : (c : ℕ) (x y z : Option ℕ) → 128 ≤ c → by_letter c x y z ≡ None
letter_high c x y z h = grind (arith, nat_tests)

pub escape_encode : (cs : List ℕ) → escape (encode_utf8_all cs) ≡ escape cs
escape_encode [] = refl
escape_encode (c ∷ cs) = elim (cases_lt c 128) [
  | inl lt ↦ ap (λ x. escape (x ++ encode_utf8_all cs)) (encode_ascii c lt) ∙ escape_cons c (encode_utf8_all cs)
      ∙ ap (λ x. by_letter c x (hex 4 0 (encode_utf8_all cs)) (hex 8 0 (encode_utf8_all cs))) (hex_encode 2 0 cs)
      ∙ ap₂ (λ x y. by_letter c (hex 2 0 cs) x y) (hex_encode 4 0 cs) (hex_encode 8 0 cs)
      ∙ sym (escape_cons c cs)
  | inr ge ↦ let l = lead_of c (encode_utf8_all cs) (encode_utf8_all (c ∷ cs)) ge refl in
      ap escape l.is ∙ escape_cons l.byte l.rest
      ∙ letter_high l.byte (hex 2 0 l.rest) (hex 4 0 l.rest) (hex 8 0 l.rest) l.high
      ∙ sym (escape_cons c cs ∙ letter_high c (hex 2 0 cs) (hex 4 0 cs) (hex 8 0 cs) ge)
]

-- the first n characters are ASCII, and there are so many
pub record Plain (cs : List ℕ) (n : ℕ) : Type 0 where
  pub bytes : at cs n ≡ n
  pub inside : n ≤ length cs

plain_zero : (cs : List ℕ) → Plain cs 0
plain_zero cs = record { bytes = at_zero cs; inside = omega arith }

plain_cons : (c n : ℕ) (cs : List ℕ) → c < 128 → Plain cs n → Plain (c ∷ cs) (suc n)
plain_cons c n cs lt p = let l = len_utf8_ascii c lt in
    record { bytes = omega (arith, p.bytes); inside = omega (arith, p.inside) }

none_some : {P : Type 0} (w : ℕ) → None ≡ Some w → P
none_some w e = absurd (cc)

none_pair : {P : Type 0} (c n : ℕ) → ◌≡◌ {A = Option (ℕ × ℕ)} None (Some (c, n)) → P
none_pair c n e = absurd (cc)

second : (p : ℕ × ℕ) (c n : ℕ) → Some p ≡ Some (c, n) → p.1 ≡ n
second p c n e = let k : ◌≡◌ {A = ℕ × ℕ} p (c, n) = cc in ap (λ (x : ℕ × ℕ). x.1) k

one_more : (n : ℕ) → 1 + n ≡ suc n
one_more n = omega arith

hex_plain : (n v w : ℕ) (cs : List ℕ) → hex n v cs ≡ Some w → Plain cs n
hex_plain zero v w cs e = plain_zero cs
hex_plain (suc n) v w [] e = let f = sym (hex_nil n v) ∙ e in absurd (cc)
hex_plain (suc n) v w (c ∷ cs) e =
    let f = sym (hex_cons n v c cs) ∙ e in
    elim (cases_lt c 128) [
      | inl lt ↦ elim (cases_lt (digit_value c) 16) [
        | inl d ↦ plain_cons c n cs lt
            (hex_plain n (16 * v + digit_value c) w cs
            (sym (ap (λ t. if t then hex n (16 * v + digit_value c) cs else None) (lt-ltb (digit_value c) 16 d)) ∙ f))
        | inr d ↦ none_some w
            (sym (ap (λ t. if t then hex n (16 * v + digit_value c) cs else None) (le-ltb (digit_value c) 16 d)) ∙ f)
      ]
      | inr ge ↦ none_some w (sym (hex_high n v c cs ge) ∙ e)
    ]

numbered_plain : (n last c m : ℕ) (cs : List ℕ) (o : Option ℕ) → hex n 0 cs ≡ o → numbered n last o ≡ Some (c, m)
    → (m ≡ suc n) × Plain cs n
numbered_plain n last c m cs None h e = none_pair c m e
numbered_plain n last c m cs (Some v) h e = elim (cases_Bool (is_char v && nat_le v last)) [
  | inl t ↦ (
    sym (second (v, 1 + n) c m (sym (ap (λ b. if b then Some (v, 1 + n) else None) t) ∙ e))
        ∙ one_more n,
    hex_plain n 0 v cs h,
  )
  | inr f ↦ none_pair c m (sym (ap (λ b. if b then Some (v, 1 + n) else None) f) ∙ e)
]

if_cases : (b : Bool) (x y r : Option (ℕ × ℕ)) → (if b then x else y) ≡ r → ((b ≡ true) × (x ≡ r))
    ⊎ ((b ≡ false) × (y ≡ r))
if_cases true x y r e = inl (refl, e)
if_cases false x y r e = inr (refl, e)

letter_below : (d k : ℕ) → k < 128 → nat_eq d k ≡ true → d < 128
letter_below d k lt t = grind (arith, nat_tests)

kept_below : (d : ℕ) → is_kept d ≡ true → d < 128
kept_below d t = grind (arith, nat_tests)

plain_one : (d c v n : ℕ) (cs : List ℕ) → d < 128 → ◌≡◌ {A = Option (ℕ × ℕ)} (Some (v, 1)) (Some (c, n))
    → Plain (d ∷ cs) n
plain_one d c v n cs lt e = subst (Plain (d ∷ cs)) (second (v, 1) c n e) (plain_cons d 0 cs lt (plain_zero cs))

plain_more : (d k last c n : ℕ) (cs : List ℕ) → d < 128 → numbered k last (hex k 0 cs) ≡ Some (c, n) → Plain (d ∷ cs) n
plain_more d k last c n cs lt e = let p = numbered_plain k last c n cs (hex k 0 cs) refl e in
    subst (Plain (d ∷ cs)) (sym p.0) (plain_cons d k cs lt p.1)

-- an escape is spelled in ASCII, and ends inside its text
pub escape_plain : (cs : List ℕ) (c n : ℕ) → escape cs ≡ Some (c, n) → Plain cs n
escape_plain [] c n e = none_pair c n (sym escape_nil ∙ e)
escape_plain (d ∷ cs) c n e =
    let s = sym (escape_cons d cs) ∙ e in
    elim (if_cases (is_kept d) _ _ _ s) [
      | inl h ↦ plain_one d c d n cs (kept_below d h.0) h.1
      | inr s1 ↦ elim (if_cases (nat_eq d 110) _ _ _ s1.1) [
        | inl h ↦ plain_one d c 10 n cs (letter_below d 110 (omega arith) h.0) h.1
        | inr s2 ↦ elim (if_cases (nat_eq d 114) _ _ _ s2.1) [
          | inl h ↦ plain_one d c 13 n cs (letter_below d 114 (omega arith) h.0) h.1
          | inr s3 ↦ elim (if_cases (nat_eq d 116) _ _ _ s3.1) [
            | inl h ↦ plain_one d c 9 n cs (letter_below d 116 (omega arith) h.0) h.1
            | inr s4 ↦ elim (if_cases (nat_eq d 120) _ _ _ s4.1) [
              | inl h ↦ plain_more d 2 0x7f c n cs (letter_below d 120 (omega arith) h.0) h.1
              | inr s5 ↦ elim (if_cases (nat_eq d 117) _ _ _ s5.1) [
                | inl h ↦ plain_more d 4 0x10_ffff c n cs (letter_below d 117 (omega arith) h.0) h.1
                | inr s6 ↦ elim (if_cases (nat_eq d 85) _ _ _ s6.1) [
                  | inl h ↦ plain_more d 8 0x10_ffff c n cs (letter_below d 85 (omega arith) h.0) h.1
                  | inr s7 ↦ none_pair c n s7.1
                ]
              ]
            ]
          ]
        ]
      ]
    ]

moved : (t : List ℕ) (j q : ℕ) (o : Option (ℕ × ℕ)) → at t j ≡ q → escape (drop j t) ≡ o → shifted q o ≡ placed t j o
moved t j q None a e = refl
moved t j q (Some (c, n)) a e =
    let p = escape_plain (drop j t) c n e in
    ap (λ k. Some (c, k)) (ap (λ k. k + n) (sym a) ∙ sym (ap (λ k. at t j + k) p.bytes) ∙ sym (at_drop t j n))

pub get_inside : (bs : List ℕ) (p c : ℕ) → slice_get bs p ≡ Some c → (p < length bs) × (get_or bs p 0 ≡ c)
get_inside [] p c e = absurd (cc)
get_inside (b ∷ bs) zero c e = (omega arith, cc)
get_inside (b ∷ bs) (suc p) c e = let h = get_inside bs p c e in (omega (arith, h.0), h.1)

-- where a byte is ASCII, that character stands there
pub record Stood (bs : List ℕ) (p c : ℕ) : Type 0 where
  pub place : IsPlace (chars bs) p
  pub char : slice_get (chars bs) (index (chars bs) p) ≡ Some c
  pub next : at (chars bs) (index (chars bs) p + 1) ≡ p + 1
  pub behind : drop (p + 1) bs ≡ encode_utf8_all (drop (index (chars bs) p + 1) (chars bs))

pub stood : (bs : List ℕ) (p c : ℕ) → IsUtf8 bs → slice_get bs p ≡ Some c → c < 128 → Stood bs p c
stood bs p c u g lt =
    let t = chars bs in
    let i = index t p in
    let b = get_inside bs p c g in
    let h : IsPlace t p = cut_place bs p u (IsCharBoundary-before_ascii bs p b.0 (subst (λ x. x < 128) (sym b.1) lt)) in
    let front : drop p bs ≡ c ∷ drop (p + 1) bs = drop-cons bs p 0 b.0 ∙ ap (λ x. x ∷ drop (suc p) bs) b.1
    ∙ (let n : suc p ≡ p + 1 = omega arith in ap (λ k. c ∷ drop k bs) n) in
    let e : encode_utf8_all (drop i t) ≡ encode_utf8 c ++ drop (p + 1) bs = sym (drop_at_char t i)
    ∙ ap (drop (at t i)) (encodes-chars bs u) ∙ ap (λ x. drop x bs) h ∙ front
    ∙ ap (λ x. x ++ drop (p + 1) bs) (sym (encode_ascii c lt)) in
    let k = cons_from_encodes (drop i t) (drop (p + 1) bs) c e in
    let s = get_some t i c k.0 k.1 in
    let n : at t (i + 1) ≡ p + 1 = at_suc t i c s.0 ∙ ap (λ x. x + len_utf8 c) h
    ∙ ap (λ x. p + x) (len_utf8_ascii c lt) in
    record {
      place = h;
      char = s.0;
      next = n;
      behind = ap (λ x. drop x bs) (sym n)
          ∙ ap (drop (at t (i + 1))) (sym (encodes-chars bs u)) ∙ drop_at_char t (i + 1);
    }

-- an escape by its bytes is that by its characters
pub escape_same : (bs : List ℕ) (p : ℕ) → IsUtf8 bs → slice_get bs p ≡ Some 92
    → shifted (p + 1) (escape (drop (p + 1) bs)) ≡ escape_from (chars bs) (index (chars bs) p)
escape_same bs p u g =
    let s = stood bs p 92 u g (omega arith) in
    let t = chars bs in
    let i = index t p in
    ap (λ l. shifted (p + 1) (escape l)) s.behind ∙ ap (shifted (p + 1)) (escape_encode (drop (i + 1) t))
    ∙ moved t (i + 1) (p + 1) (escape (drop (i + 1) t)) s.next refl

-- the front of a list from a number on
pub drop_front : (t : List ℕ) (i c : ℕ) → slice_get t i ≡ Some c → drop i t ≡ c ∷ drop (i + 1) t
drop_front [] i c e = absurd (cc)
drop_front (d ∷ cs) zero c e = let same : d ≡ c = cc in let n : suc zero ≡ zero + 1 = omega arith in
    ap (λ x. x ∷ cs) same ∙ ap (λ k. c ∷ drop k (d ∷ cs)) n
drop_front (d ∷ cs) (suc i) c e = let n : suc (i + 1) ≡ suc i + 1 = omega arith in drop_front cs i c e
    ∙ ap (λ k. c ∷ drop k (d ∷ cs)) n

-- an ASCII character is one byte of the text
pub byte_stood : (bs : List ℕ) (p c : ℕ) → IsUtf8 bs → IsPlace (chars bs) p
    → slice_get (chars bs) (index (chars bs) p) ≡ Some c → c < 128 → slice_get bs p ≡ Some c
byte_stood bs p c u h g lt =
    let t = chars bs in
    let i = index t p in
    let e : drop p bs ≡ c ∷ encode_utf8_all (drop (i + 1) t) =
    ap (λ x. drop x bs) (sym h) ∙ ap (drop (at t i)) (sym (encodes-chars bs u)) ∙ drop_at_char t i
    ∙ ap encode_utf8_all (drop_front t i c g)
    ∙ ap (λ x. x ++ encode_utf8_all (drop (i + 1) t)) (encode_ascii c lt) in
    (get_some bs p c (encode_utf8_all (drop (i + 1) t)) e).0

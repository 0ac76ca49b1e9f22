-- Hexadecimal digits and escapes, as they are printed, are read as what was printed.
use Rattle.std.proofs.Common.{◌≡◌, inl, inr, ℕ, suc, ◌+◌, ◌*◌, ◌<◌, ◌≤◌, List, [], ◌∷◌, ◌++◌, Some, None, refl, sym, ap}
use Rattle.std.proofs.Common.{subst, ◌∙◌, arith}
use Rattle.std.specs.Prelude.{◌/◌, ◌%◌, true, false, ◌&&◌, ◌||◌, nat_eq, nat_le, nat_lt, if◌then◌else◌}
use Rattle.std.specs.Char.{digit_value}
use Rattle.std.specs.Str.{all_scalars}
use lib.Utf8.{scalar, low_scalar}
use Rattle.std.proofs.lemmas.Bool.{cases_Bool, lt-ltb, and_parts, and_from}
use Rattle.std.proofs.lemmas.Bool.Decides.{nat_tests}
use Rattle.rpl_text.specs.Characters.{is_char}
use Rattle.rpl_text.specs.Escapes.{hex, numbered, escape}
use Rattle.rpl_text.proofs.Hex.{hex_cons}
use Rattle.rpl_lexer.specs.Written.{is_bare, Writes, nothing, bare, escaped}
use Rattle.rpl_syntax.specs.Printed.{digit_char, quoted_char, quoted, four_digits}

lower_digit : (d : ℕ) → d < 16 → digit_value (digit_char 97 d) ≡ d
lower_digit d lt = grind (arith, nat_tests)

upper_digit : (d : ℕ) → d < 16 → digit_value (digit_char 65 d) ≡ d
upper_digit d lt = grind (arith, nat_tests)

-- one digit more
hex_step : (k v w d : ℕ) (r : List ℕ) → digit_value w ≡ d → d < 16 → hex (suc k) v (w ∷ r) ≡ hex k (16 * v + d) r
hex_step k v w d r e lt =
    hex_cons k v w r ∙ (ap (λ x. if nat_lt x 16 then hex k (16 * v + x) r else None) e
    ∙ ap (λ b. if b then hex k (16 * v + d) r else None) (lt-ltb d 16 lt))

four_value : (v n : ℕ) → n < 65536 → 16 * (16 * (16 * (16 * v + n / 4096) + n / 256 % 16) + n / 16 % 16) + n % 16
    ≡ 65536 * v + n
four_value v n lt = omega arith

four_hex : (k v n : ℕ) (r : List ℕ) → n < 65536 → hex (suc (suc (suc (suc k)))) v (four_digits n ++ r)
    ≡ hex k (65536 * v + n) r
four_hex k v n r lt =
    let a : n / 4096 < 16 = omega arith in
    let b : n / 256 % 16 < 16 = omega arith in
    let c : n / 16 % 16 < 16 = omega arith in
    let d : n % 16 < 16 = omega arith in
    hex_step (suc (suc (suc k))) v _ (n / 4096) _ (upper_digit (n / 4096) a) a
    ∙ (hex_step (suc (suc k)) _ _ (n / 256 % 16) _ (upper_digit (n / 256 % 16) b) b
    ∙ (hex_step (suc k) _ _ (n / 16 % 16) _ (upper_digit (n / 16 % 16) c) c
    ∙ (hex_step k _ _ (n % 16) r (upper_digit (n % 16) d) d
    ∙ ap (λ x. hex k x r) (four_value v n lt))))

hex_zero : (v : ℕ) (r : List ℕ) → hex 0 v r ≡ Some v
unfolding hex
hex_zero v r = refl

-- ---- quoted characters

escape_point : (r : List ℕ) → escape (85 ∷ r) ≡ numbered 8 0x10_ffff (hex 8 0 r)
unfolding escape
escape_point r = refl

escape_byte : (r : List ℕ) → escape (120 ∷ r) ≡ numbered 2 0x7f (hex 2 0 r)
unfolding escape
escape_byte r = refl

-- the digits of `\U`
unfoldable pub point_digits : ℕ → List ℕ
point_digits c = four_digits (c / 65536) ++ four_digits (c % 65536)

numbered_is : (n last v : ℕ) → is_char v ≡ true → nat_le v last ≡ true → numbered n last (Some v) ≡ Some (v, 1 + n)
numbered_is n last v h l = rw (h, l) refl

char_last : (c : ℕ) → is_char c ≡ true → nat_le c 0x10_ffff ≡ true
char_last c h = grind (arith, nat_tests)

pub point_read : (c : ℕ) (r : List ℕ) → is_char c ≡ true → escape (85 ∷ (point_digits c ++ r)) ≡ Some (c, 9)
unfolding point_digits
point_read c r h =
    let m : c ≤ 0x10_ffff = let l = char_last c h in grind (arith, nat_tests) in
    let e : 65536 * (65536 * 0 + c / 65536) + c % 65536 ≡ c = omega arith in
    escape_point (point_digits c ++ r)
    ∙ (ap (numbered 8 0x10_ffff) (four_hex 4 0 (c / 65536) _ (omega arith)
    ∙ (four_hex 0 _ (c % 65536) r (omega arith) ∙ (hex_zero _ r ∙ ap (λ x. Some x) e)))
    ∙ numbered_is 8 0x10_ffff c h (char_last c h))

byte_read : (c : ℕ) → c < 128 → escape (120 ∷ digit_char 97 (c / 16) ∷ digit_char 97 (c % 16) ∷ []) ≡ Some (c, 3)
byte_read c lt =
    let a : c / 16 < 16 = omega arith in
    let b : c % 16 < 16 = omega arith in
    let e : 16 * (16 * 0 + c / 16) + c % 16 ≡ c = omega arith in
    let h : is_char c ≡ true = grind (arith, nat_tests) in
    let l : nat_le c 0x7f ≡ true = grind (arith, nat_tests) in
    escape_byte _
    ∙ (ap (numbered 2 0x7f) (hex_step 1 0 _ (c / 16) _ (lower_digit (c / 16) a) a
    ∙ (hex_step 0 _ _ (c % 16) [] (lower_digit (c % 16) b) b ∙ (hex_zero _ [] ∙ ap (λ x. Some x) e)))
    ∙ numbered_is 2 0x7f c h l)

one_letter : (c l : ℕ) (w cs : List ℕ) → escape (l ∷ []) ≡ Some (c, 1) → Writes w cs → Writes (92 ∷ l ∷ w) (c ∷ cs)
one_letter c l w cs e h = escaped c (l ∷ []) w cs e h

letter_quote : escape (34 ∷ []) ≡ Some (34, 1)
unfolding escape
letter_quote = refl

letter_slash : escape (92 ∷ []) ≡ Some (92, 1)
unfolding escape
letter_slash = refl

letter_n : escape (110 ∷ []) ≡ Some (10, 1)
unfolding escape
letter_n = refl

letter_r : escape (114 ∷ []) ≡ Some (13, 1)
unfolding escape
letter_r = refl

letter_t : escape (116 ∷ []) ≡ Some (9, 1)
unfolding escape
letter_t = refl

same_number : (c k : ℕ) → nat_eq c k ≡ true → c ≡ k
same_number c k h = grind (arith, nat_tests)

control_low : (c : ℕ) → (nat_lt c 32 || nat_eq c 127) ≡ true → c < 128
control_low c h = grind (arith, nat_tests)

bare_char : (c : ℕ) → nat_eq c 34 ≡ false → nat_eq c 92 ≡ false → nat_eq c 10 ≡ false → is_bare c ≡ true
bare_char c a b d = rw (a, b, d) refl

char_writes : (c : ℕ) (w cs : List ℕ) → Writes w cs → Writes (quoted_char c ++ w) (c ∷ cs)
char_writes c w cs h = elim (cases_Bool (nat_eq c 34)) [
  | inl a ↦ rw a (one_letter c 34 w cs (subst (λ x. escape (34 ∷ []) ≡ Some (x, 1)) (sym (same_number c 34 a))
      letter_quote) h)
  | inr a ↦ elim (cases_Bool (nat_eq c 92)) [
    | inl b ↦ rw (a, b)
        (one_letter c 92 w cs (subst (λ x. escape (92 ∷ []) ≡ Some (x, 1)) (sym (same_number c 92 b)) letter_slash) h)
    | inr b ↦ elim (cases_Bool (nat_eq c 10)) [
      | inl d ↦ rw (a, b, d)
          (one_letter c 110 w cs (subst (λ x. escape (110 ∷ []) ≡ Some (x, 1)) (sym (same_number c 10 d)) letter_n) h)
      | inr d ↦ elim (cases_Bool (nat_eq c 13)) [
        | inl e ↦ rw (a, b, d, e)
            (one_letter c 114 w cs (subst (λ x. escape (114 ∷ []) ≡ Some (x, 1)) (sym (same_number c 13 e)) letter_r) h)
        | inr e ↦ elim (cases_Bool (nat_eq c 9)) [
          | inl f ↦ rw (a, b, d, e, f)
              (one_letter c 116 w cs (subst (λ x. escape (116 ∷ []) ≡ Some (x, 1)) (sym (same_number c 9 f)) letter_t)
              h)
          | inr f ↦ elim (cases_Bool (nat_lt c 32 || nat_eq c 127)) [
            | inl g ↦ rw (a, b, d, e, f, g) (escaped c (120 ∷ digit_char 97 (c / 16) ∷ digit_char 97 (c % 16) ∷ []) w cs
                (byte_read c (control_low c g)) h)
            | inr g ↦ rw (a, b, d, e, f, g) (bare c w cs (bare_char c a b d) h)
          ]
        ]
      ]
    ]
  ]
]

pub writes : (s : List ℕ) → Writes (quoted s) s
writes [] = nothing
writes (c ∷ cs) = char_writes c (quoted cs) cs (writes cs)

-- ---- quoted texts are of characters

all_and : (u v : List ℕ) → all_scalars u ≡ true → all_scalars v ≡ true → all_scalars (u ++ v) ≡ true
all_and [] v h k = k
all_and (c ∷ cs) v h k = let p = and_parts (scalar c) (all_scalars cs) h in
    and_from (scalar c) (all_scalars (cs ++ v)) p.0 (all_and cs v p.1 k)

digit_low : (d : ℕ) → d < 16 → digit_char 97 d < 55296
digit_low d lt = grind (arith, nat_tests)

control_scalars : (c : ℕ) → c < 128 → all_scalars (92 ∷ 120 ∷ digit_char 97 (c / 16) ∷ digit_char 97 (c % 16) ∷ [])
    ≡ true
control_scalars c lt =
    let a = low_scalar (digit_char 97 (c / 16)) (digit_low (c / 16) (omega arith)) in
    let b = low_scalar (digit_char 97 (c % 16)) (digit_low (c % 16) (omega arith)) in
    and_from (scalar (digit_char 97 (c / 16))) (scalar (digit_char 97 (c % 16)) && true) a
    (and_from (scalar (digit_char 97 (c % 16))) true b refl)

char_scalars : (c : ℕ) → scalar c ≡ true → all_scalars (quoted_char c) ≡ true
char_scalars c h = elim (cases_Bool (nat_eq c 34)) [
  | inl a ↦ rw a refl
  | inr a ↦ elim (cases_Bool (nat_eq c 92)) [
    | inl b ↦ rw (a, b) refl
    | inr b ↦ elim (cases_Bool (nat_eq c 10)) [
      | inl d ↦ rw (a, b, d) refl
      | inr d ↦ elim (cases_Bool (nat_eq c 13)) [
        | inl e ↦ rw (a, b, d, e) refl
        | inr e ↦ elim (cases_Bool (nat_eq c 9)) [
          | inl f ↦ rw (a, b, d, e, f) refl
          | inr f ↦ elim (cases_Bool (nat_lt c 32 || nat_eq c 127)) [
            | inl g ↦ rw (a, b, d, e, f, g) (control_scalars c (control_low c g))
            | inr g ↦ rw (a, b, d, e, f, g) (and_from (scalar c) true h refl)
          ]
        ]
      ]
    ]
  ]
]

pub quoted_scalars : (s : List ℕ) → all_scalars s ≡ true → all_scalars (quoted s) ≡ true
quoted_scalars [] h = refl
quoted_scalars (c ∷ cs) h = let p = and_parts (scalar c) (all_scalars cs) h in
    all_and (quoted_char c) (quoted cs) (char_scalars c p.0) (quoted_scalars cs p.1)

pub closed_scalars : (s : List ℕ) → all_scalars s ≡ true → all_scalars (quoted s ++ 34 ∷ []) ≡ true
closed_scalars s h = all_and (quoted s) (34 ∷ []) (quoted_scalars s h) refl

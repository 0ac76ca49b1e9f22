-- Bounds, as they are printed, are one token that says what was printed.
use Rattle.std.proofs.Common.{◌≡◌, inl, inr, ℕ, ◌+◌, ◌-◌, ◌*◌, ◌^◌, ◌<◌, ◌≤◌, List, [], ◌∷◌, ◌++◌, Option, Some, None}
use Rattle.std.proofs.Common.{length, refl, sym, ap, subst, ◌∙◌, arith, append_assoc, length-append}
use Rattle.std.specs.Prelude.{◌/◌, ◌%◌, Bool, true, false, is_some, nat_eq, if◌then◌else◌, encode_utf8_all}
use Rattle.std.specs.Fmt.{decimal}
use Rattle.std.specs.Str.{IsAscii}
use Rattle.std.proofs.lemmas.Bool.{cases_Bool, and_parts, and_from, lt-ltb}
use Rattle.std.proofs.lemmas.Bool.Decides.{nat_tests}
use Rattle.std.proofs.lemmas.Fmt.{decimal_by_steps, IsAscii-decimal}
use Rattle.std.proofs.lemmas.Str.{encodes-IsAscii, IsAscii-append}
use Rattle.std.proofs.lemmas.Str.Ascii.{IsAscii-nil, IsAscii-cons}
use Rattle.std.specs.List.{list_all}
use Rattle.rpl_text.specs.Ascii.{is_digit}
use Rattle.rpl_lexer.specs.declared.bounds.Bounds.{Bounds as Numbers}
use Rattle.rpl_lexer.specs.declared.token.TokenKind.TheVariants as K
use Rattle.rpl_text.specs.Numbers.{value, narrow}
use Rattle.rpl_lexer.specs.Braces.{bounds_in}
use Rattle.rpl_lexer.specs.Cut.{IsToken}
use Rattle.rpl_lexer.specs.Said as P
use Rattle.rpl_lexer.proofs.Spans.{drop_zero}
use Rattle.rpl_lexer.specs.Written.{Spells}
use Rattle.rpl_lexer.proofs.Bounded.{plain_stands, plain_read, comma_stands, both_read, open_read}
use Rattle.rpl_syntax.specs.declared.token.Token.{Token}
use Rattle.rpl_syntax.specs.declared.token.Token.TheVariants as T
use Rattle.rpl_syntax.specs.Texts.{Allowed, Says}
use Rattle.rpl_syntax.proofs.Cutting.{alone, Lexes}
use Rattle.rpl_syntax.proofs.Encoded.{token_bytes, low}
use Rattle.rpl_syntax.proofs.Fronts.{tight, Loose}

-- ---- decimal digits

record Digits (n : ℕ) (ds : List ℕ) : Type 0 where
  digits : list_all is_digit ds ≡ true
  some : 0 < length ds
  value : value 0 ds ≡ n

value_push : (k d : ℕ) (ds : List ℕ) → value k (ds ++ d ∷ []) ≡ value k ds * 10 + (d - 48)
value_push k d [] = refl
value_push k d (b ∷ bs) = value_push (k * 10 + (b - 48)) d bs

each_push : (d : ℕ) (ds : List ℕ) → list_all is_digit ds ≡ true → is_digit d ≡ true
    → list_all is_digit (ds ++ d ∷ []) ≡ true
each_push d [] h e = and_from (is_digit d) true e refl
each_push d (b ∷ bs) h e = let p = and_parts (is_digit b) (list_all is_digit bs) h in
    and_from (is_digit b) (list_all is_digit (bs ++ d ∷ [])) p.0 (each_push d bs p.1 e)

digit_is : (d : ℕ) → d < 10 → is_digit (48 + d) ≡ true
digit_is d lt = grind (arith, nat_tests)

one_digit : (n : ℕ) → n < 10 → Digits n ((48 + n) ∷ [])
one_digit n lt = record {
  digits = and_from (is_digit (48 + n)) true (digit_is n lt) refl;
  some = omega arith;
  value = omega arith;
}

more_digits : (n : ℕ) (ds : List ℕ) → 10 ≤ n → Digits (n / 10) ds → Digits n (ds ++ ((48 + n % 10) ∷ []))
more_digits n ds ge h =
    let v = h.value in
    record {
      digits = each_push (48 + n % 10) ds h.digits (digit_is (n % 10) (omega arith));
      some = omega (arith, length-append ds ((48 + n % 10) ∷ []));
      value = value_push 0 (48 + n % 10) ds ∙ omega arith;
    }

small : (n : ℕ) → n ≤ 255 → n < 2 ^ 64
small n le = omega arith

decimal_spells : (n : ℕ) → n ≤ 255 → Spells n (decimal n)
decimal_spells n le =
    let lt = small n le in
    let h = decimal_by_steps Digits one_digit more_digits n lt in
    record {
      digits = h.digits;
      some = h.some;
      number = ap narrow h.value
          ∙ ap (λ b. if b then Some n else None) (lt-ltb n (2 ^ 64) lt);
    }

-- ---- bounds

braced : (w r : List ℕ) (b : Numbers) (t : Token) (ts : List Token) → IsAscii w
    → IsToken ((123 ∷ w) ++ r) (alone K.Bounds (123 ∷ w)) → bounds_in w ≡ b → Says 0 (P.Bounds b) t → Lexes r ts
    → Lexes (encode_utf8_all (123 ∷ w) ++ r) (t ∷ ts)
braced w r b t ts a h e s l =
    subst (λ x. Lexes (x ++ r) (t ∷ ts)) (sym (encodes-IsAscii (123 ∷ w) (IsAscii-cons 123 w (omega arith) a)))
    (tight K.Bounds (123 ∷ w) r t ts refl h (subst (λ x. Says 0 (P.Bounds x) t) (sym (ap bounds_in (drop_zero w) ∙ e))
    s) l)

ascii : (n : ℕ) (w : List ℕ) → n ≤ 255 → IsAscii w → IsAscii (decimal n ++ w)
ascii n w le h = IsAscii-append (decimal n) w (IsAscii-decimal n (small n le)) h

open_bounds : (l : ℕ) (r : List ℕ) (ts : List Token) → l ≤ 255 → Lexes r ts
    → Lexes (token_bytes (T.Bounds l None) ++ r) (T.Bounds l None ∷ ts)
open_bounds l r ts le k =
    let ds = decimal l in
    let h = decimal_spells l le in
    let w = ds ++ 44 ∷ 125 ∷ [] in
    let n : length w ≡ length ds + 2 = length-append ds (44 ∷ 125 ∷ []) in
    let z : length (123 ∷ w) - 0 ≡ length ds + 1 + 0 + 2 = omega arith in
    let inside : length (123 ∷ w) ≤ length ((123 ∷ w) ++ r) = omega (arith, length-append (123 ∷ w) r) in
    braced w r (record { least = Some l; comma = true; most = None }) (T.Bounds l None) ts
    (ascii l (44 ∷ 125 ∷ []) le
    (IsAscii-cons 44 (125 ∷ []) (omega arith) (IsAscii-cons 125 [] (omega arith) IsAscii-nil)))
    (record {
      forward = omega arith;
      inside = inside;
      stands = rw (append_assoc ds (44 ∷ 125 ∷ []) r, z) (comma_stands ds [] r l h refl refl);
    }) (open_read ds [] l h)
    (le, refl) k

plain_bounds : (l : ℕ) (r : List ℕ) (ts : List Token) → l ≤ 255 → Lexes r ts
    → Lexes (encode_utf8_all (123 ∷ (decimal l ++ 125 ∷ [])) ++ r) (T.Bounds l (Some l) ∷ ts)
plain_bounds l r ts le k =
    let ds = decimal l in
    let h = decimal_spells l le in
    let w = ds ++ 125 ∷ [] in
    let n : length w ≡ length ds + 1 = length-append ds (125 ∷ []) in
    let z : length (123 ∷ w) - 0 ≡ length ds + 2 = omega arith in
    let inside : length (123 ∷ w) ≤ length ((123 ∷ w) ++ r) = omega (arith, length-append (123 ∷ w) r) in
    let same : l ≤ l = omega arith in
    braced w r (record { least = Some l; comma = false; most = None }) (T.Bounds l (Some l)) ts
    (ascii l (125 ∷ []) le (IsAscii-cons 125 [] (omega arith) IsAscii-nil))
    (record {
      forward = omega arith;
      inside = inside;
      stands = rw (append_assoc ds (125 ∷ []) r, z) (plain_stands ds r l h);
    }) (plain_read ds [] l h) ((same, le), refl)
    k

both_bounds : (l m : ℕ) (r : List ℕ) (ts : List Token) → l ≤ m → m ≤ 255 → Lexes r ts
    → Lexes (encode_utf8_all (123 ∷ (decimal l ++ 44 ∷ (decimal m ++ 125 ∷ []))) ++ r) (T.Bounds l (Some m) ∷ ts)
both_bounds l m r ts low le k =
    let ds = decimal l in
    let es = decimal m in
    let h = decimal_spells l (omega arith) in
    let j = decimal_spells m le in
    let w = ds ++ 44 ∷ (es ++ 125 ∷ []) in
    let n : length w ≡ length ds + (1 + (length es + 1)) =
    omega (arith, length-append ds (44 ∷ (es ++ 125 ∷ [])), length-append es (125 ∷ [])) in
    let z : length (123 ∷ w) - 0 ≡ length ds + 1 + length es + 2 = omega arith in
    let inside : length (123 ∷ w) ≤ length ((123 ∷ w) ++ r) = omega (arith, length-append (123 ∷ w) r) in
    braced w r (record { least = Some l; comma = true; most = Some m }) (T.Bounds l (Some m)) ts
    (ascii l (44 ∷ (es ++ 125 ∷ [])) (omega arith)
    (IsAscii-cons 44 (es ++ 125 ∷ []) (omega arith)
    (ascii m (125 ∷ []) le (IsAscii-cons 125 [] (omega arith) IsAscii-nil))))
    (record {
      forward = omega arith;
      inside = inside;
      stands = rw (append_assoc ds (44 ∷ (es ++ 125 ∷ [])) r, append_assoc es (125 ∷ []) r, z)
          (comma_stands ds es r l h j.digits (ap is_some j.number));
    }) (both_read ds es [] l m h j) ((low, le), refl) k

abbrev text_by : Bool → (l m : ℕ) → List ℕ
text_by b l m = if b then 123 ∷ decimal l ++ 125 ∷ [] else 123 ∷ decimal l ++ 44 ∷ decimal m ++ 125 ∷ []

same_number : (l m : ℕ) → nat_eq l m ≡ true → l ≡ m
same_number l m h = grind (arith, nat_tests)

comma_text : (l m : ℕ) → 123 ∷ (decimal l ++ 44 ∷ (decimal m ++ 125 ∷ [])) ≡ text_by false l m
comma_text l m = ap (λ x. 123 ∷ x) (sym (append_assoc (decimal l) (44 ∷ decimal m) (125 ∷ [])))

pub bounds : (l : ℕ) (m : Option ℕ) (r : List ℕ) (ts : List Token) → Allowed l m → Lexes r ts
    → Lexes (token_bytes (T.Bounds l m) ++ r) (T.Bounds l m ∷ ts)
bounds l None r ts h k = open_bounds l r ts h k
bounds l (Some m) r ts h k = elim (cases_Bool (nat_eq l m)) [
  | inl e ↦
      let o : T.Bounds l (Some l) ≡ T.Bounds l (Some m) = ap (λ x. T.Bounds l (Some x)) (same_number l m e) in
      subst (λ b. Lexes (encode_utf8_all (text_by b l m) ++ r) (T.Bounds l (Some m) ∷ ts)) (sym e)
      (subst (λ t. Lexes (encode_utf8_all (text_by true l m) ++ r) (t ∷ ts)) o
      (plain_bounds l r ts (omega (arith, h.0, h.1)) k))
  | inr e ↦ subst (λ b. Lexes (encode_utf8_all (text_by b l m) ++ r) (T.Bounds l (Some m) ∷ ts)) (sym e)
      (subst (λ x. Lexes (encode_utf8_all x ++ r) (T.Bounds l (Some m) ∷ ts)) (comma_text l m)
      (both_bounds l m r ts h.0 h.1 k))
]

brace_loose : (w r : List ℕ) → Loose (encode_utf8_all (123 ∷ w) ++ r)
brace_loose w r = subst (λ x. Loose (x ++ r)) (sym (low 123 w (omega arith))) (record { word = refl; dot = refl })

loose_by : (b : Bool) (l m : ℕ) (r : List ℕ) → Loose (encode_utf8_all (text_by b l m) ++ r)
loose_by true l m r = brace_loose _ r
loose_by false l m r = brace_loose _ r

pub bounds_loose : (l : ℕ) (m : Option ℕ) (r : List ℕ) → Loose (token_bytes (T.Bounds l m) ++ r)
bounds_loose l None r = brace_loose _ r
bounds_loose l (Some m) r = loose_by (nat_eq l m) l m r

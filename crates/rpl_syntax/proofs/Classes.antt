-- Brackets, as they are printed, are one token and are read as the set that was printed.
use Rattle.std.proofs.Common.{◌≡◌, ℕ, zero, suc, ◌+◌, ◌<◌, ◌≤◌, List, [], ◌∷◌, ◌++◌, Option, Some, length, refl, sym}
use Rattle.std.proofs.Common.{ap, subst, ◌∙◌, arith, append_assoc, length-append}
use Rattle.std.specs.Prelude.{◌/◌, ◌%◌, Bool, true, false, not, ◌&&◌, ◌||◌, is_some, nat_le, Ok}
use Rattle.std.specs.Char.{len_utf8}
use Rattle.std.specs.Str.{IsAscii}
use Rattle.std.proofs.lemmas.Bool.{and_parts, and_from}
use Rattle.std.proofs.lemmas.Bool.Decides.{nat_tests}
use Rattle.std.proofs.lemmas.List.{append-nil}
use Rattle.std.proofs.lemmas.Str.{encodes-IsAscii, IsAscii-append}
use Rattle.std.proofs.lemmas.Str.Ascii.{IsAscii-nil, IsAscii-cons}
use Rattle.regex_class.specs.Ranges.{Range, in_range, in_ranges, rises_from, fits_from}
use Rattle.regex_class.proofs.RangesLemmas.{in_ranges-nil, in_ranges-cons, or-false, fits_from-true, le-fits_from}
use Rattle.rpl_text.specs.Escapes.{escape}
use Rattle.rpl_text.proofs.Walks.{at_length}
use Rattle.rpl_classes.specs.Sets.{is_char, IsNormal}
use Rattle.rpl_classes.specs.Norm.{norm}
use Rattle.rpl_classes.specs.Algebra.{others}
use Rattle.rpl_classes.specs.Symbols.{Placed, escaped, symbols, size, first, past_blanks}
use Rattle.rpl_classes.specs.Lists.{Reading, and_then, changed}
use Rattle.rpl_classes.specs.Brackets.{more, joined, body, inside, bracket, marked, outermost, bracket_of}
use Rattle.rpl_classes.proofs.Normal.{rises_cons, rises_nil, norm_nil, norm_normal, norm_whole, norm_normal_same}
use Rattle.rpl_classes.proofs.Normal.{normal_same}
use Rattle.rpl_classes.proofs.Operations.{others_members, others_normal, nil_normal}
use Rattle.rpl_lexer.specs.Written.{is_inner}
use Rattle.rpl_lexer.proofs.Stood.{Bracketed, nothing, inner, hidden, nested}
use Rattle.rpl_syntax.specs.Printed.{digit_char, four_digits, point_text, range_text, ranges_text, members_text}
use Rattle.rpl_syntax.specs.Printed.{caret_text, class_text}
use Rattle.rpl_syntax.proofs.Hexes.{point_digits, point_read}

-- ---- the ranges of a set

-- each range by itself is a set, with characters for its ends
abbrev pub Fine : List Range → Type 0
Fine [] = Unit {0}
Fine (r ∷ rs) = IsNormal (r ∷ []) × (is_char r.0 ≡ true) × (is_char r.1 ≡ true) × (r.0 ≤ r.1) × Fine rs

low_end : (r : Range) → r.0 ≤ r.1 → in_range r r.0 ≡ true
unfolding in_range
low_end r le = grind (arith, nat_tests)

high_end : (r : Range) → r.0 ≤ r.1 → in_range r r.1 ≡ true
unfolding in_range
high_end r le = grind (arith, nat_tests)

or_left : (a b : Bool) → a ≡ true → (a || b) ≡ true
or_left a b e = rw e refl

or_right : (a b : Bool) → b ≡ true → (a || b) ≡ true
or_right true b e = refl
or_right false b e = e

fine : (n : ℕ) (rs : List Range) → rises_from n rs ≡ true → ((c : ℕ) → in_ranges rs c ≡ true → is_char c ≡ true)
    → Fine rs
fine n [] h k = tt
fine n (r ∷ rs) h k =
    let p = and_parts (fits_from n r) (rises_from (r.1 + 2) rs) (sym (rises_cons n r rs) ∙ h) in
    let f = fits_from-true n r p.0 in
    let here : (c : ℕ) → in_range r c ≡ true → is_char c ≡ true =
    λ c e. k c (in_ranges-cons r rs c ∙ or_left (in_range r c) (in_ranges rs c) e) in
    let alone : IsNormal (r ∷ []) = record {
      rises = rises_cons 0 r []
          ∙ and_from (fits_from 0 r) (rises_from (r.1 + 2) []) (le-fits_from 0 r (omega arith) f.1 f.2)
          (rises_nil (r.1 + 2));
      chars = λ c e. here c (sym (or-false (in_range r c))
          ∙ (ap (λ b. in_range r c || b) (sym (in_ranges-nil c)) ∙ (sym (in_ranges-cons r [] c) ∙ e)));
    } in (
      alone,
      here r.0 (low_end r f.1),
      here r.1 (high_end r f.1),
      f.1,
      fine (r.1 + 2) rs p.1 (λ c e. k c (in_ranges-cons r rs c ∙ or_right (in_range r c) (in_ranges rs c) e)),
    )

pub all_fine : (rs : List Range) → IsNormal rs → Fine rs
all_fine rs h = fine 0 rs h.rises h.chars

-- ---- texts of points and ranges

-- what stands after the `[` of a range, up to its `]`
abbrev pair_text : (low high : ℕ) → List ℕ
pair_text low high = 92 ∷ 85 ∷ (point_digits low ++ 45 ∷ 92 ∷ 85 ∷ point_digits high)

point_is : (c : ℕ) → point_text c ≡ 92 ∷ 85 ∷ point_digits c
unfolding point_text point_digits
point_is c = refl

range_is : (low high : ℕ) → range_text low high ≡ 91 ∷ (pair_text low high ++ 93 ∷ [])
unfolding range_text
range_is low high =
    ap (λ x. 91 ∷ (x ++ 45 ∷ point_text high) ++ 93 ∷ []) (point_is low)
    ∙ ap (λ x. 91 ∷ ((92 ∷ 85 ∷ point_digits low) ++ 45 ∷ x) ++ 93 ∷ []) (point_is high)

range_before : (low high : ℕ) (r : List ℕ) → range_text low high ++ r ≡ 91 ∷ (pair_text low high ++ 93 ∷ r)
range_before low high r = ap (λ x. x ++ r) (range_is low high)
    ∙ ap (λ x. 91 ∷ x) (append_assoc (pair_text low high) (93 ∷ []) r)

-- ---- a bracket is one token

digit_inner : (d : ℕ) → d < 16 → is_inner (digit_char 65 d) ≡ true
digit_inner d lt = grind (arith, nat_tests)

four_inner : (n : ℕ) (u : List ℕ) → n < 65536 → Bracketed u → Bracketed (four_digits n ++ u)
four_inner n u lt h =
    inner (digit_char 65 (n / 4096)) _ (digit_inner (n / 4096) (omega arith))
    (inner (digit_char 65 (n / 256 % 16)) _ (digit_inner (n / 256 % 16) (omega arith))
    (inner (digit_char 65 (n / 16 % 16)) _ (digit_inner (n / 16 % 16) (omega arith))
    (inner (digit_char 65 (n % 16)) u (digit_inner (n % 16) (omega arith)) h)))

char_le : (c : ℕ) → is_char c ≡ true → c ≤ 0x10_ffff
char_le c h = grind (arith, nat_tests)

digits_inner : (c : ℕ) (u : List ℕ) → c ≤ 0x10_ffff → Bracketed u → Bracketed (point_digits c ++ u)
unfolding point_digits
digits_inner c u le b =
    four_inner (c / 65536) (four_digits (c % 65536) ++ u) (omega arith) (four_inner (c % 65536) u (omega arith) b)

point_inner : (c : ℕ) (u : List ℕ) → is_char c ≡ true → Bracketed u → Bracketed (92 ∷ 85 ∷ (point_digits c ++ u))
point_inner c u h b =
    hidden 85 (point_digits c ++ u) refl (λ x. ap is_some (ap (λ y. escape (85 ∷ y)) (append_assoc (point_digits c) u x)
    ∙ point_read c (u ++ x) h)) (digits_inner c u (char_le c h) b)

pair_inner : (low high : ℕ) → is_char low ≡ true → is_char high ≡ true → Bracketed (pair_text low high)
pair_inner low high h k =
    point_inner low (45 ∷ 92 ∷ 85 ∷ point_digits high) h
    (inner 45 (92 ∷ 85 ∷ point_digits high) refl (subst (λ x. Bracketed (92 ∷ 85 ∷ x)) (append-nil (point_digits high))
    (point_inner high [] k nothing)))

range_inner : (low high : ℕ) (u : List ℕ) → is_char low ≡ true → is_char high ≡ true → Bracketed u
    → Bracketed (range_text low high ++ u)
range_inner low high u h k b =
    subst Bracketed (sym (range_before low high u)) (nested (pair_text low high) u (pair_inner low high h k) b)

ranges_inner : (rs : List Range) → Fine rs → Bracketed (ranges_text rs)
ranges_inner [] f = nothing
ranges_inner (r ∷ rs) f = range_inner r.0 r.1 (ranges_text rs) f.1 f.2 (ranges_inner rs f.4)

abbrev whole_text : List ℕ
whole_text = range_text 0 0xd7ff ++ range_text 0xe000 0x10_ffff

whole_inner : Bracketed whole_text
whole_inner = range_inner 0 0xd7ff (range_text 0xe000 0x10_ffff) refl refl
    (subst Bracketed (append-nil (range_text 0xe000 0x10_ffff)) (range_inner 0xe000 0x10_ffff [] refl refl nothing))

members_inner : (rs : List Range) → Fine rs → Bracketed (members_text rs)
members_inner [] f = nested (94 ∷ whole_text) [] (inner 94 whole_text refl whole_inner) nothing
members_inner (r ∷ rs) f = ranges_inner (r ∷ rs) f

pub class_inner : (rs : List Range) (negated : Bool) → Fine rs → Bracketed (caret_text negated ++ members_text rs)
class_inner rs true f = inner 94 (members_text rs) refl (members_inner rs f)
class_inner rs false f = members_inner rs f

-- ---- all of it is ASCII

digit_low : (d : ℕ) → d < 16 → digit_char 65 d < 128
digit_low d lt = grind (arith, nat_tests)

four_ascii : (n : ℕ) (u : List ℕ) → n < 65536 → IsAscii u → IsAscii (four_digits n ++ u)
four_ascii n u lt h =
    let a = digit_char 65 (n / 256 % 16) in
    let b = digit_char 65 (n / 16 % 16) in
    let c = digit_char 65 (n % 16) in
    IsAscii-cons (digit_char 65 (n / 4096)) (a ∷ b ∷ c ∷ u) (digit_low (n / 4096) (omega arith))
    (IsAscii-cons a (b ∷ c ∷ u) (digit_low (n / 256 % 16) (omega arith))
    (IsAscii-cons b (c ∷ u) (digit_low (n / 16 % 16) (omega arith))
    (IsAscii-cons c u (digit_low (n % 16) (omega arith)) h)))

digits_ascii : (c : ℕ) (u : List ℕ) → c ≤ 0x10_ffff → IsAscii u → IsAscii (point_digits c ++ u)
unfolding point_digits
digits_ascii c u le a =
    four_ascii (c / 65536) (four_digits (c % 65536) ++ u) (omega arith) (four_ascii (c % 65536) u (omega arith) a)

point_ascii : (c : ℕ) (u : List ℕ) → is_char c ≡ true → IsAscii u → IsAscii (92 ∷ 85 ∷ (point_digits c ++ u))
point_ascii c u h a =
    IsAscii-cons 92 (85 ∷ (point_digits c ++ u)) (omega arith)
    (IsAscii-cons 85 (point_digits c ++ u) (omega arith) (digits_ascii c u (char_le c h) a))

range_ascii : (low high : ℕ) → is_char low ≡ true → is_char high ≡ true → IsAscii (range_text low high)
range_ascii low high h k =
    subst IsAscii (sym (range_is low high)) (IsAscii-cons 91 (pair_text low high ++ 93 ∷ []) (omega arith)
    (IsAscii-append (pair_text low high) (93 ∷ [])
    (point_ascii low (45 ∷ 92 ∷ 85 ∷ point_digits high) h (IsAscii-cons 45 (92 ∷ 85 ∷ point_digits high) (omega arith)
    (subst (λ x. IsAscii (92 ∷ 85 ∷ x)) (append-nil (point_digits high)) (point_ascii high [] k IsAscii-nil))))
    (IsAscii-cons 93 [] (omega arith) IsAscii-nil)))

ranges_ascii : (rs : List Range) → Fine rs → IsAscii (ranges_text rs)
ranges_ascii [] f = IsAscii-nil
ranges_ascii (r ∷ rs) f =
    IsAscii-append (range_text r.0 r.1) (ranges_text rs) (range_ascii r.0 r.1 f.1 f.2) (ranges_ascii rs f.4)

members_ascii : (rs : List Range) → Fine rs → IsAscii (members_text rs)
members_ascii [] f =
    IsAscii-cons 91 (94 ∷ (whole_text ++ 93 ∷ [])) (omega arith)
    (IsAscii-cons 94 (whole_text ++ 93 ∷ []) (omega arith)
    (IsAscii-append whole_text (93 ∷ []) (IsAscii-append (range_text 0 0xd7ff) (range_text 0xe000 0x10_ffff)
    (range_ascii 0 0xd7ff refl refl) (range_ascii 0xe000 0x10_ffff refl refl))
    (IsAscii-cons 93 [] (omega arith) IsAscii-nil)))
members_ascii (r ∷ rs) f = ranges_ascii (r ∷ rs) f

caret_ascii : (negated : Bool) (u : List ℕ) → IsAscii u → IsAscii (caret_text negated ++ u)
caret_ascii true u h = IsAscii-cons 94 u (omega arith) h
caret_ascii false u h = h

pub class_ascii : (rs : List Range) (negated : Bool) → Fine rs → IsAscii (class_text rs negated)
class_ascii rs negated f =
    IsAscii-cons 91 ((caret_text negated ++ members_text rs) ++ 93 ∷ []) (omega arith)
    (IsAscii-append (caret_text negated ++ members_text rs) (93 ∷ [])
    (caret_ascii negated (members_text rs) (members_ascii rs f)) (IsAscii-cons 93 [] (omega arith) IsAscii-nil))

-- ---- symbols

-- characters that belong to an escape
skip : (k p : ℕ) (ws cs : List ℕ) → length ws ≡ k → (q : ℕ) × (symbols k p (ws ++ cs) ≡ symbols 0 q cs)
unfolding symbols
skip zero p [] cs e = (p, refl)
skip zero p (w ∷ ws) cs e = absurd (omega (arith, e))
skip (suc k) p [] cs e = absurd (omega (arith, e))
skip (suc k) p (w ∷ ws) cs e = skip k (p + len_utf8 w) ws cs (omega (arith, e))

digits_len : (c : ℕ) → length (85 ∷ point_digits c) ≡ 9
unfolding point_digits
digits_len c = refl

slash_first : (p : ℕ) (w : List ℕ) → symbols 0 p (92 ∷ w) ≡ escaped p (escape w) (λ k. symbols k (p + 1) w)
unfolding symbols
slash_first p w = refl

point : (p c : ℕ) (cs : List ℕ) → is_char c ≡ true
    → (q : ℕ) × (symbols 0 p (92 ∷ 85 ∷ (point_digits c ++ cs)) ≡ escaped p (Some (c, 9)) (λ k. symbols 0 q cs))
point p c cs h =
    let w = 85 ∷ (point_digits c ++ cs) in
    let s = skip 9 (p + 1) (85 ∷ point_digits c) cs (digits_len c) in (
      s.0,
      slash_first p w ∙ (ap (λ (o : Option (ℕ × ℕ)). escaped p o (λ k. symbols k (p + 1) w)) (point_read c cs h)
          ∙ ap (λ (z : List Placed). escaped p (Some (c, 9)) (λ k. z)) s.1),
    )

abbrev dash_at : ℕ → Placed
dash_at q = (q, first (symbols 0 0 (45 ∷ [])))

dash_first : (p : ℕ) (cs : List ℕ) → symbols 0 p (45 ∷ cs) ≡ dash_at p ∷ symbols 0 (p + len_utf8 45) cs
unfolding symbols
dash_first p cs = refl

-- x, `-`, y
abbrev listing : (p low q r high : ℕ) → List Placed → List Placed
listing p low q r high s = escaped p (Some (low, 9)) (λ k. dash_at q ∷ escaped r (Some (high, 9)) (λ k. s))

record Listed (p low high : ℕ) (cs : List ℕ) : Type 0 where
  dash : ℕ
  next : ℕ
  end : ℕ
  symbols : symbols 0 p (pair_text low high ++ 93 ∷ cs) ≡ listing p low dash next high (symbols 0 end (93 ∷ cs))

listed : (p low high : ℕ) (cs : List ℕ) → is_char low ≡ true → is_char high ≡ true → Listed p low high cs
listed p low high cs h k =
    let r = 92 ∷ 85 ∷ (point_digits high ++ 93 ∷ cs) in
    let a = point p low (45 ∷ r) h in
    let b = point (a.0 + len_utf8 45) high (93 ∷ cs) k in
    record {
      dash = a.0;
      next = a.0 + len_utf8 45;
      end = b.0;
      symbols = ap (λ x. symbols 0 p (92 ∷ 85 ∷ x)) (append_assoc (point_digits low) (45 ∷ 92 ∷ 85 ∷ point_digits high)
          (93 ∷ cs))
          ∙ (a.1 ∙ ap (λ (z : List Placed). escaped p (Some (low, 9)) (λ i. z)) (dash_first a.0 r
          ∙ ap (λ (z : List Placed). dash_at a.0 ∷ z) b.1));
    }

bracket_open : (n p : ℕ) (x : List ℕ)
    → bracket (suc n) (symbols 0 p (91 ∷ x)) ≡ inside (bracket n) n p (symbols 0 (p + len_utf8 91) x)
unfolding symbols bracket
bracket_open n p x = refl

listing_read : (b : List Placed → Reading) (n i p low q r high e : ℕ) (cs : List ℕ) → nat_le low high ≡ true
    → inside b n i (listing p low q r high (symbols 0 e (93 ∷ cs)))
    ≡ Ok (norm ((low, high) ∷ []), symbols 0 (e + len_utf8 93) cs)
unfolding symbols past_blanks
listing_read b n i p low q r high e cs t = rw t refl

-- a range in its bracket
range_read : (n p low high : ℕ) (cs : List ℕ) → is_char low ≡ true → is_char high ≡ true → low ≤ high
    → (q : ℕ) × (bracket (suc n) (symbols 0 p (91 ∷ (pair_text low high ++ 93 ∷ cs)))
    ≡ Ok (norm ((low, high) ∷ []), symbols 0 q cs))
range_read n p low high cs h k le =
    let l = listed (p + len_utf8 91) low high cs h k in
    let t : nat_le low high ≡ true = grind (arith, nat_tests) in (
      l.end + len_utf8 93,
      bracket_open n p (pair_text low high ++ 93 ∷ cs)
          ∙ (ap (inside (bracket n) n p) l.symbols
          ∙ listing_read (bracket n) n p (p + len_utf8 91) low l.dash l.next high l.end cs t),
    )

-- ---- brackets side by side

more_open : (b : List Placed → Reading) (k p : ℕ) (a : List Range) (x : List ℕ)
    → more b (suc k) a (symbols 0 p (91 ∷ x)) ≡ and_then (b (symbols 0 p (91 ∷ x))) (λ c s. more b k (a ++ c) s)
unfolding symbols past_blanks more
more_open b k p a x = refl

more_shut : (b : List Placed → Reading) (k p : ℕ) (a : List Range) (cs : List ℕ)
    → more b k a (symbols 0 p (93 ∷ cs)) ≡ Ok (norm a, symbols 0 p (93 ∷ cs))
unfolding symbols past_blanks more
more_shut b zero p a cs = refl
more_shut b (suc k) p a cs = refl

joined_shut : (b : List Placed → Reading) (k p : ℕ) (a : List Range) (cs : List ℕ)
    → joined b (suc k) a (symbols 0 p (93 ∷ cs)) ≡ Ok (a, symbols 0 (p + len_utf8 93) cs)
unfolding symbols past_blanks joined
joined_shut b k p a cs = refl

body_open : (b : List Placed → Reading) (k p : ℕ) (x : List ℕ)
    → body b k (symbols 0 p (91 ∷ x)) ≡ and_then (and_then (b (symbols 0 p (91 ∷ x))) (more b k)) (joined b k)
unfolding symbols past_blanks
body_open b k p x = refl

ranges_before : (r : Range) (rs : List Range) (t : List ℕ)
    → ranges_text (r ∷ rs) ++ t ≡ 91 ∷ (pair_text r.0 r.1 ++ 93 ∷ (ranges_text rs ++ t))
ranges_before r rs t = append_assoc (range_text r.0 r.1) (ranges_text rs) t ∙ range_before r.0 r.1 (ranges_text rs ++ t)

-- the ranges after some others, up to the closing `]`
more_read : (rs : List Range) (n k p : ℕ) (a : List Range) (cs : List ℕ) → Fine rs → length rs ≤ k
    → (q : ℕ) × (more (bracket (suc n)) k a (symbols 0 p (ranges_text rs ++ 93 ∷ cs))
    ≡ Ok (norm (a ++ rs), symbols 0 q (93 ∷ cs)))
more_read [] n k p a cs f le = (
  p,
  more_shut (bracket (suc n)) k p a cs
      ∙ ap (λ (x : List Range). Ok (norm x, symbols 0 p (93 ∷ cs))) (sym (append-nil a)),
)
more_read (r ∷ rs) n zero p a cs f le = absurd (omega arith)
more_read (r ∷ rs) n (suc k) p a cs f le =
    let t = ranges_text rs ++ 93 ∷ cs in
    let b = bracket (suc n) in
    let u = range_read n p r.0 r.1 t f.1 f.2 f.3 in
    let v = more_read rs n k u.0 (a ++ r ∷ []) cs f.4 (omega arith) in (
      v.0,
      ap (λ x. more b (suc k) a (symbols 0 p x)) (ranges_before r rs (93 ∷ cs))
          ∙ (more_open b k p a (pair_text r.0 r.1 ++ 93 ∷ t)
          ∙ (ap (λ (x : Reading). and_then x (λ c s. more b k (a ++ c) s)) u.1
          ∙ (ap (λ x. more b k (a ++ x) (symbols 0 u.0 t)) (norm_normal_same (r ∷ []) f.0)
          ∙ (v.1 ∙ ap (λ (x : List Range). Ok (norm x, symbols 0 v.0 (93 ∷ cs))) (append_assoc a (r ∷ []) rs))))),
    )

-- the members of a bracket, up to and with its closing `]`
members_read : (r : Range) (rs : List Range) (n k p : ℕ) (cs : List ℕ) → Fine (r ∷ rs) → length rs ≤ suc k
    → (q : ℕ) × (body (bracket (suc n)) (suc k) (symbols 0 p (ranges_text (r ∷ rs) ++ 93 ∷ cs))
    ≡ Ok (norm (r ∷ rs), symbols 0 q cs))
members_read r rs n k p cs f le =
    let t = ranges_text rs ++ 93 ∷ cs in
    let b = bracket (suc n) in
    let u = range_read n p r.0 r.1 t f.1 f.2 f.3 in
    let v = more_read rs n (suc k) u.0 (r ∷ []) cs f.4 le in (
      v.0 + len_utf8 93,
      ap (λ x. body b (suc k) (symbols 0 p x)) (ranges_before r rs (93 ∷ cs))
          ∙ (body_open b (suc k) p (pair_text r.0 r.1 ++ 93 ∷ t)
          ∙ (ap (λ (x : Reading). and_then (and_then x (more b (suc k))) (joined b (suc k))) u.1
          ∙ (ap (λ x. and_then (more b (suc k) x (symbols 0 u.0 t)) (joined b (suc k))) (norm_normal_same (r ∷ []) f.0)
          ∙ (ap (λ (x : Reading). and_then x (joined b (suc k))) v.1
          ∙ joined_shut b k v.0 (norm (r ∷ rs)) cs)))),
    )

-- ---- the one member that is nothing but all characters

abbrev whole_ranges : List Range
whole_ranges = (0, 0xd7ff) ∷ (0xe000, 0x10_ffff) ∷ []

whole_normal : IsNormal whole_ranges
whole_normal = subst IsNormal norm_whole (norm_normal ((0, 0x10_ffff) ∷ []))

in_whole : (c : ℕ) → is_char c ≡ true → in_ranges whole_ranges c ≡ true
unfolding in_ranges in_range
in_whole c h = grind (arith, nat_tests)

no_member : (b : Bool) → b ≡ true → (true && not b) ≡ false
no_member b e = rw e refl

nothing_left : others whole_ranges ≡ []
nothing_left = normal_same (others whole_ranges) [] (others_normal whole_ranges) nil_normal
    (λ c h. others_members whole_ranges c
    ∙ (ap (λ b. b && not (in_ranges whole_ranges c)) h
    ∙ (no_member (in_ranges whole_ranges c) (in_whole c h) ∙ sym (in_ranges-nil c))))

inside_caret : (b : List Placed → Reading) (n i p : ℕ) (x : List ℕ)
    → inside b n i (symbols 0 p (94 ∷ x)) ≡ changed others (body b n (symbols 0 (p + len_utf8 94) x))
unfolding symbols
inside_caret b n i p x = refl

whole_before : (t : List ℕ) → members_text [] ++ t ≡ 91 ∷ 94 ∷ (ranges_text whole_ranges ++ 93 ∷ t)
whole_before t =
    let a = range_text 0 0xd7ff in
    let b = range_text 0xe000 0x10_ffff in
    ap (λ x. 91 ∷ 94 ∷ x) (append_assoc (a ++ b) (93 ∷ []) t ∙ ap (λ x. (a ++ x) ++ 93 ∷ t) (sym (append-nil b)))

none_read : (n k p : ℕ) (cs : List ℕ)
    → (q : ℕ) × (body (bracket (suc (suc (suc n)))) (suc k) (symbols 0 p (members_text [] ++ 93 ∷ cs))
    ≡ Ok ([], symbols 0 q cs))
none_read n k p cs =
    let b = bracket (suc (suc (suc n))) in
    let w = ranges_text whole_ranges ++ 93 ∷ 93 ∷ cs in
    let i = p + len_utf8 91 in
    let u = members_read (0, 0xd7ff) ((0xe000, 0x10_ffff) ∷ []) (suc n) (suc n) (i + len_utf8 94) (93 ∷ cs)
    (all_fine whole_ranges whole_normal) (omega arith) in
    let e : members_text [] ++ 93 ∷ cs ≡ 91 ∷ 94 ∷ w = whole_before (93 ∷ cs) in (
      u.0 + len_utf8 93,
      ap (λ x. body b (suc k) (symbols 0 p x)) e
          ∙ (body_open b (suc k) p (94 ∷ w)
          ∙ (ap (λ (x : Reading). and_then (and_then x (more b (suc k))) (joined b (suc k)))
          (bracket_open (suc (suc n)) p (94 ∷ w) ∙ (inside_caret (bracket (suc (suc n))) (suc (suc n)) p i w
          ∙ ap (changed others) u.1))
          ∙ (ap (λ x. and_then (more b (suc k) x (symbols 0 u.0 (93 ∷ cs))) (joined b (suc k)))
          (ap others (norm_normal_same whole_ranges whole_normal) ∙ nothing_left)
          ∙ (ap (λ (x : Reading). and_then x (joined b (suc k))) (more_shut b (suc k) u.0 [] cs)
          ∙ (joined_shut b k u.0 (norm []) cs
          ∙ ap (λ (x : List Range). Ok (x, symbols 0 (u.0 + len_utf8 93) cs)) norm_nil))))),
    )

-- ---- the whole text

all_read : (rs : List Range) (n p : ℕ) (cs : List ℕ) → IsNormal rs → length rs ≤ suc (suc (suc n))
    → (q : ℕ) × (body (bracket (suc (suc (suc n)))) (suc (suc (suc n))) (symbols 0 p (members_text rs ++ 93 ∷ cs))
    ≡ Ok (rs, symbols 0 q cs))
all_read [] n p cs h le = none_read n (suc (suc n)) p cs
all_read (r ∷ rs) n p cs h le =
    let u = members_read r rs (suc (suc n)) (suc (suc n)) p cs (all_fine (r ∷ rs) h) (omega arith) in
    (u.0, u.1 ∙ ap (λ (x : List Range). Ok (x, symbols 0 u.0 cs)) (norm_normal_same (r ∷ rs) h))

members_before : (rs : List Range) (t : List ℕ) → (x : List ℕ) × (members_text rs ++ t ≡ 91 ∷ x)
members_before [] t = (94 ∷ (ranges_text whole_ranges ++ 93 ∷ t), whole_before t)
members_before (r ∷ rs) t = (pair_text r.0 r.1 ++ 93 ∷ (ranges_text rs ++ t), ranges_before r rs t)

whole_open : (w : List ℕ) → bracket_of (91 ∷ w) ≡ outermost (suc (size (91 ∷ w))) 0 (symbols 0 1 w)
unfolding symbols
whole_open w = refl

outer_plain : (n p q : ℕ) (x : List ℕ)
    → outermost n p (symbols 0 q (91 ∷ x)) ≡ marked false (body (bracket n) n (symbols 0 q (91 ∷ x)))
unfolding symbols
outer_plain n p q x = refl

outer_caret : (n p q : ℕ) (x : List ℕ)
    → outermost n p (symbols 0 q (94 ∷ x)) ≡ marked true (body (bracket n) n (symbols 0 (q + len_utf8 94) x))
unfolding symbols
outer_caret n p q x = refl

outer_read : (rs : List Range) (negated : Bool) (n p q : ℕ) → IsNormal rs → length rs ≤ suc (suc (suc n))
    → outermost (suc (suc (suc n))) p (symbols 0 q ((caret_text negated ++ members_text rs) ++ 93 ∷ []))
    ≡ Ok (rs, negated)
outer_read rs true n p q h le =
    let u = all_read rs n (q + len_utf8 94) [] h le in
    outer_caret (suc (suc (suc n))) p q (members_text rs ++ 93 ∷ []) ∙ ap (marked true) u.1
outer_read rs false n p q h le =
    let k = suc (suc (suc n)) in
    let m = members_before rs (93 ∷ []) in
    let u = all_read rs n q [] h le in
    ap (λ x. outermost k p (symbols 0 q x)) m.1
    ∙ (outer_plain k p q m.0 ∙ (ap (λ x. marked false (body (bracket k) k (symbols 0 q x))) (sym m.1)
    ∙ ap (marked false) u.1))

ranges_len : (rs : List Range) → length rs ≤ length (ranges_text rs)
ranges_len [] = omega arith
ranges_len (r ∷ rs) =
    let a = ranges_len rs in
    let b : length (ranges_text (r ∷ rs)) ≡ suc (length (pair_text r.0 r.1 ++ 93 ∷ (ranges_text rs ++ []))) =
    ap length (sym (append-nil (ranges_text (r ∷ rs))) ∙ ranges_before r rs []) in
    omega (arith, b, length-append (pair_text r.0 r.1) (93 ∷ (ranges_text rs ++ [])), length-append (ranges_text rs) [])

members_len : (rs : List Range) → length rs ≤ length (members_text rs)
members_len [] = omega arith
members_len (r ∷ rs) = ranges_len (r ∷ rs)

pub class_read : (rs : List Range) (negated : Bool) → IsNormal rs
    → bracket_of (class_text rs negated) ≡ Ok (rs, negated)
class_read rs negated h =
    let u = caret_text negated ++ members_text rs in
    let t = class_text rs negated in
    let n : size t ≡ suc (length u + 1) = at_length t
    ∙ (ap length (encodes-IsAscii t (class_ascii rs negated (all_fine rs h))) ∙ ap suc (length-append u (93 ∷ []))) in
    let m = members_len rs in
    let a : length u ≡ length (caret_text negated) + length (members_text rs) =
    length-append (caret_text negated) (members_text rs) in
    let k : suc (size t) ≡ suc (suc (suc (length u))) = omega (arith, n) in
    whole_open (u ++ 93 ∷ []) ∙ (ap (λ x. outermost x 0 (symbols 0 1 (u ++ 93 ∷ []))) k
    ∙ outer_read rs negated (length u) 0 1 h (omega arith))

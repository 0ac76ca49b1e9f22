-- What stands at a place is the longest that fits there, and nothing fits where nothing stands.
use Rattle.std.proofs.Common.{◌≡◌, ℕ, zero, suc, ◌+◌, ◌≤◌, List, [], ◌∷◌, Option, Some, None, length, take, drop, refl}
use Rattle.std.proofs.Common.{sym, ap, subst, ◌∙◌, arith, drop-drop, length-drop}
use Rattle.std.specs.Prelude.{◌≢◌, Bool, true, false, ◌&&◌, is_some, nat_eq, if◌then◌else◌}
use Rattle.std.proofs.lemmas.Bool.Decides.{nat_tests}
use Rattle.rpl_text.specs.Ascii.{is_letter, is_digit}
use Rattle.rpl_lexer.specs.declared.token.TokenKind.{TokenKind}
use Rattle.rpl_lexer.specs.declared.token.TokenKind.TheVariants as K
use Rattle.rpl_lexer.specs.declared.fault.LexKind.{LexKind}
use Rattle.rpl_lexer.specs.declared.fault.LexKind.TheVariants.{NumberTooWide}
use Rattle.rpl_lexer.specs.declared.front.Stand.TheVariants.{Found, Fault}
use Rattle.rpl_lexer.specs.declared.enclosed.Enclosure.{Enclosure}
use Rattle.rpl_lexer.specs.declared.enclosed.Enclosure.TheVariants.{Quotes, Brackets}
use Rattle.rpl_lexer.specs.Bytes.{is_word, run, past, begins, has}
use Rattle.rpl_lexer.specs.Keywords.{is_keyword}
use Rattle.rpl_lexer.specs.Signs.{punct}
use Rattle.rpl_lexer.specs.Enclosed.{close, bad}
use Rattle.rpl_lexer.specs.Braces.{parts, begins_bounds}
use Rattle.rpl_lexer.specs.Fronts.{first_name, qualifies, stands}
use Rattle.rpl_lexer.specs.Forms.{Fits, Longest}
use Rattle.rpl_lexer.proofs.Ways.{Way, letter, digit, quote, bracket, brace, sign, none, way, Named, keyword, qualified}
use Rattle.rpl_lexer.proofs.Ways.{name, named, Counted, fits, wide, counted, Closed, unclosed, whole, spoilt, closed}
use Rattle.rpl_lexer.proofs.Ways.{Braced, opening, unmet, wide_least, wide_most, met, braced}
use Rattle.rpl_lexer.proofs.Edges.{run_le, found_same, no_token, has_is, close_shut}
use Rattle.rpl_lexer.proofs.Spans.{left, drop_zero, head_same, run_stops, NameFits, name_fits, name_made, PairFits}
use Rattle.rpl_lexer.proofs.Spans.{pair_fits, pair_made, digits_fit, digits_made, EnclosedFits, enclosed_fits}
use Rattle.rpl_lexer.proofs.Spans.{enclosed_made}
use Rattle.rpl_lexer.proofs.BoundsFit.{BoundsFit, bounds_fit, bounds_made}

-- ---- kinds by their first bytes

class : ℕ → ℕ
class b = if is_letter b then 1
    else (if is_digit b then 2
    else (if nat_eq b 34 then 3 else (if nat_eq b 91 then 4 else (if is_some (punct b) then 5 else 0))))

abbrev of_kind : TokenKind → ℕ
of_kind K.Name = 1
of_kind K.Qualified = 1
of_kind K.Keyword = 1
of_kind K.Number = 2
of_kind K.Text = 3
of_kind K.Bracket = 4
of_kind K.Bounds = 5
of_kind K.Sign = 5

letter_class : (b : ℕ) → is_letter b ≡ true → class b ≡ 1
unfolding class
letter_class b h = rw h refl

digit_class : (b : ℕ) → is_digit b ≡ true → class b ≡ 2
unfolding class
digit_class b h = let l : is_letter b ≡ false = grind (arith, nat_tests) in rw (l, h) refl

byte_class : (b c n : ℕ) → b ≡ c → class c ≡ n → class b ≡ n
byte_class b c n e h = ap class e ∙ h

quote_class : class 34 ≡ 3
unfolding class
quote_class = refl

bracket_class : class 91 ≡ 4
unfolding class
bracket_class = refl

brace_class : class 123 ≡ 5
unfolding class
brace_class = refl

sign_class : (b : ℕ) → is_some (punct b) ≡ true → class b ≡ 5
unfolding class
sign_class b h =
    let l : is_letter b ≡ false = grind (arith, nat_tests) in
    let d : is_digit b ≡ false = grind (arith, nat_tests) in
    let q : nat_eq b 34 ≡ false = grind (arith, nat_tests) in
    let k : nat_eq b 91 ≡ false = grind (arith, nat_tests) in
    rw (l, d, q, k, h) refl

none_class : (b : ℕ) → is_letter b ≡ false → is_digit b ≡ false → nat_eq b 34 ≡ false → nat_eq b 91 ≡ false
    → is_some (punct b) ≡ false → class b ≡ 0
unfolding class
none_class b l d q k h = rw (l, d, q, k, h) refl

same_byte : (b c : ℕ) → nat_eq b c ≡ true → b ≡ c
same_byte b c h = grind (arith, nat_tests)

-- a sign is one byte
record SignFits (b m : ℕ) : Type 0 where
  size : m ≡ 1
  sign : is_some (punct b) ≡ true

one_left : (b byte m : ℕ) (bs : List ℕ) → take m (b ∷ bs) ≡ byte ∷ [] → m ≤ length (b ∷ bs)
    → is_some (punct byte) ≡ true → SignFits b m
one_left b byte zero bs e le h = let f : [] ≡ byte ∷ [] = e in absurd (cc)
one_left b byte (suc zero) bs e le h = let s = head_same b byte (take zero bs) [] e in
    record { size = refl; sign = subst (λ x. is_some (punct x) ≡ true) (sym s.0) h }
one_left b byte (suc (suc m)) [] e le h = absurd (omega arith)
one_left b byte (suc (suc m)) (c ∷ cs) e le h = let s = head_same b byte (c ∷ take m cs) [] e in
    absurd (nonempty c (take m cs) s.1)
  where
    nonempty : (c : ℕ) (cs : List ℕ) → c ∷ cs ≡ [] → ⊥
    nonempty c cs e = cc

sign_fits : (b m : ℕ) (bs : List ℕ) → Fits K.Sign (b ∷ bs) m → SignFits b m
sign_fits b m bs f = one_left b f.form.byte m bs f.form.is f.inside f.form.sign

fits_class : (j : TokenKind) (b : ℕ) (bs : List ℕ) (m : ℕ) → Fits j (b ∷ bs) m → class b ≡ of_kind j
fits_class K.Name b bs m f = letter_class b (name_fits (b ∷ bs) m false f.inside f.form f.end).letter
fits_class K.Qualified b bs m f = letter_class b (pair_fits (b ∷ bs) m f.inside f.form f.end).letter
fits_class K.Keyword b bs m f = letter_class b (name_fits (b ∷ bs) m true f.inside f.form f.end).letter
fits_class K.Number b bs m f = digit_class b (digits_fit (b ∷ bs) m f.inside f.form).digit
fits_class K.Text b bs m f = byte_class b 34 3 (enclosed_fits Quotes 34 b bs m f.inside f.form).byte quote_class
fits_class K.Bracket b bs m f = byte_class b 91 4 (enclosed_fits Brackets 91 b bs m f.inside f.form).byte bracket_class
fits_class K.Bounds b bs m f = byte_class b 123 5 (bounds_fit b bs m f.inside f.form).byte brace_class
fits_class K.Sign b bs m f = sign_class b (sign_fits b m bs f).sign

other : {P : Type 0} (b n : ℕ) (j : TokenKind) → class b ≡ n → class b ≡ of_kind j → (n ≡ of_kind j → ⊥) → P
other b n j c d h = absurd (h (sym c ∙ d))

from_found : (s : List ℕ) (k j : TokenKind) (m n : ℕ) → Found j m ≡ Found k n → Longest j s m → Longest k s n
from_found s k j m n e h = let p = found_same j k m n e in subst (λ x. Longest x s n) p.0 (subst (Longest j s) p.1 h)

-- ---- names

data LetterFit (s : List ℕ) (j : TokenKind) (m : ℕ) : Type 0 where
  as_name : j ≡ K.Name → NameFits s m false → LetterFit s j m
  as_keyword : j ≡ K.Keyword → NameFits s m true → LetterFit s j m
  as_pair : j ≡ K.Qualified → PairFits s m → LetterFit s j m

letter_fit : (j : TokenKind) (b : ℕ) (bs : List ℕ) (m : ℕ) → class b ≡ 1 → Fits j (b ∷ bs) m → LetterFit (b ∷ bs) j m
letter_fit K.Name b bs m c f = as_name refl (name_fits (b ∷ bs) m false f.inside f.form f.end)
letter_fit K.Qualified b bs m c f = as_pair refl (pair_fits (b ∷ bs) m f.inside f.form f.end)
letter_fit K.Keyword b bs m c f = as_keyword refl (name_fits (b ∷ bs) m true f.inside f.form f.end)
letter_fit K.Number b bs m c f = other b 1 K.Number c (fits_class K.Number b bs m f) (λ e. omega (arith, e))
letter_fit K.Text b bs m c f = other b 1 K.Text c (fits_class K.Text b bs m f) (λ e. omega (arith, e))
letter_fit K.Bracket b bs m c f = other b 1 K.Bracket c (fits_class K.Bracket b bs m f) (λ e. omega (arith, e))
letter_fit K.Bounds b bs m c f = other b 1 K.Bounds c (fits_class K.Bounds b bs m f) (λ e. omega (arith, e))
letter_fit K.Sign b bs m c f = other b 1 K.Sign c (fits_class K.Sign b bs m f) (λ e. omega (arith, e))

differ : {P : Type 0} (x : Bool) → x ≡ true → x ≡ false → P
differ x h g = let e : true ≡ false = sym h ∙ g in absurd (cc)

keyword_most : (s : List ℕ) (j : TokenKind) (m : ℕ) → is_keyword (first_name s) ≡ true → LetterFit s j m
    → (m ≡ run is_word s) × (j ≡ K.Keyword)
keyword_most s j m w (as_name e f) = differ (is_keyword (first_name s)) w f.word
keyword_most s j m w (as_keyword e f) = (f.size, e)
keyword_most s j m w (as_pair e f) = differ (is_keyword (first_name s)) w f.word

name_most : (s : List ℕ) (j : TokenKind) (m : ℕ) → is_keyword (first_name s) ≡ false
    → qualifies s (run is_word s) ≡ false → LetterFit s j m → (m ≡ run is_word s) × (j ≡ K.Name)
name_most s j m w q (as_name e f) = (f.size, e)
name_most s j m w q (as_keyword e f) = differ (is_keyword (first_name s)) f.word w
name_most s j m w q (as_pair e f) = differ (qualifies s (run is_word s)) f.qualified q

pair_most : (s : List ℕ) (j : TokenKind) (m : ℕ) → is_keyword (first_name s) ≡ false → LetterFit s j m
    → m ≤ past is_word s (run is_word s + 1)
pair_most s j m w (as_name e f) = omega (arith, f.size)
pair_most s j m w (as_keyword e f) = differ (is_keyword (first_name s)) f.word w
pair_most s j m w (as_pair e f) = omega (arith, f.size)

pair_only : (s : List ℕ) (j : TokenKind) (m : ℕ) → is_keyword (first_name s) ≡ false
    → m ≡ past is_word s (run is_word s + 1) → LetterFit s j m → j ≡ K.Qualified
pair_only s j m w n (as_name e f) = absurd (omega (arith, f.size, n))
pair_only s j m w n (as_keyword e f) = differ (is_keyword (first_name s)) f.word w
pair_only s j m w n (as_pair e f) = e

pair_stops : (s : List ℕ) → begins is_word (drop (past is_word s (run is_word s + 1)) s) ≡ false
pair_stops s = let n = run is_word s + 1 in let r = drop n s in
    ap (begins is_word) (sym (drop-drop (run is_word r) n s)) ∙ run_stops is_word r

pair_inside : (s : List ℕ) → has s (run is_word s) 46 ≡ true → past is_word s (run is_word s + 1) ≤ length s
pair_inside s h = omega (
  arith,
  (has_is s (run is_word s) 46 h).0,
  run_le is_word (drop (run is_word s + 1) s),
  length-drop (run is_word s + 1) s,
)

name_longest : (b : ℕ) (bs : List ℕ) (k : TokenKind) (n : ℕ) → is_letter b ≡ true → Named (b ∷ bs) (Found k n)
    → Longest k (b ∷ bs) n
name_longest b bs k n h (keyword w e) =
    let s = b ∷ bs in
    let c = letter_class b h in
    from_found s k K.Keyword (run is_word s) n e (record {
      fits = record { inside = run_le is_word s; form = name_made s true h w; end = run_stops is_word s };
      longest = λ j m f. let r = keyword_most s j m w (letter_fit j b bs m c f) in omega (arith, r.0);
      only = λ j f. (keyword_most s j (run is_word s) w (letter_fit j b bs (run is_word s) c f)).1;
    })
name_longest b bs k n h (qualified w q e) =
    let s = b ∷ bs in
    let c = letter_class b h in
    let z = past is_word s (run is_word s + 1) in
    from_found s k K.Qualified z n e (record {
      fits = record { inside = pair_inside s (left _ _ q); form = pair_made s h w q; end = pair_stops s };
      longest = λ j m f. pair_most s j m w (letter_fit j b bs m c f);
      only = λ j f. pair_only s j z w refl (letter_fit j b bs z c f);
    })
name_longest b bs k n h (name w q e) =
    let s = b ∷ bs in
    let c = letter_class b h in
    from_found s k K.Name (run is_word s) n e (record {
      fits = record { inside = run_le is_word s; form = name_made s false h w; end = run_stops is_word s };
      longest = λ j m f. let r = name_most s j m w q (letter_fit j b bs m c f) in omega (arith, r.0);
      only = λ j f. (name_most s j (run is_word s) w q (letter_fit j b bs (run is_word s) c f)).1;
    })

-- ---- numbers

kind_two : (j : TokenKind) → 2 ≡ of_kind j → j ≡ K.Number
kind_two K.Name e = absurd (omega (arith, e))
kind_two K.Qualified e = absurd (omega (arith, e))
kind_two K.Keyword e = absurd (omega (arith, e))
kind_two K.Number e = refl
kind_two K.Text e = absurd (omega (arith, e))
kind_two K.Bracket e = absurd (omega (arith, e))
kind_two K.Bounds e = absurd (omega (arith, e))
kind_two K.Sign e = absurd (omega (arith, e))

digits_most : (j : TokenKind) (b : ℕ) (bs : List ℕ) (m : ℕ) → j ≡ K.Number → Fits j (b ∷ bs) m
    → m ≤ run is_digit (b ∷ bs)
digits_most j b bs m e f = let g = subst (λ x. Fits x (b ∷ bs) m) e f in (digits_fit (b ∷ bs) m g.inside g.form).within

number_longest : (b : ℕ) (bs : List ℕ) (k : TokenKind) (n : ℕ) → is_digit b ≡ true → Counted (b ∷ bs) (Found k n)
    → Longest k (b ∷ bs) n
number_longest b bs k n h (fits g e) =
    let s = b ∷ bs in
    let c = digit_class b h in
    from_found s k K.Number (run is_digit s) n e (record {
      fits = record { inside = run_le is_digit s; form = digits_made s h; end = tt };
      longest = λ j m f. digits_most j b bs m (kind_two j (sym c ∙ fits_class j b bs m f)) f;
      only = λ j f. kind_two j (sym c ∙ fits_class j b bs (run is_digit s) f);
    })
number_longest b bs k n h (wide g e) = absurd (cc)

-- ---- texts and brackets

kind_three : (j : TokenKind) → 3 ≡ of_kind j → j ≡ K.Text
kind_three K.Name e = absurd (omega (arith, e))
kind_three K.Qualified e = absurd (omega (arith, e))
kind_three K.Keyword e = absurd (omega (arith, e))
kind_three K.Number e = absurd (omega (arith, e))
kind_three K.Text e = refl
kind_three K.Bracket e = absurd (omega (arith, e))
kind_three K.Bounds e = absurd (omega (arith, e))
kind_three K.Sign e = absurd (omega (arith, e))

kind_four : (j : TokenKind) → 4 ≡ of_kind j → j ≡ K.Bracket
kind_four K.Name e = absurd (omega (arith, e))
kind_four K.Qualified e = absurd (omega (arith, e))
kind_four K.Keyword e = absurd (omega (arith, e))
kind_four K.Number e = absurd (omega (arith, e))
kind_four K.Text e = absurd (omega (arith, e))
kind_four K.Bracket e = refl
kind_four K.Bounds e = absurd (omega (arith, e))
kind_four K.Sign e = absurd (omega (arith, e))

same_some : (a b : ℕ) (o : Option ℕ) → o ≡ Some a → o ≡ Some b → a ≡ b
same_some a b o h g = let e : Some a ≡ Some b = sym h ∙ g in cc

text_fit : (j : TokenKind) (b : ℕ) (bs : List ℕ) (m : ℕ) → j ≡ K.Text → Fits j (b ∷ bs) m
    → EnclosedFits Quotes 34 b bs m
text_fit j b bs m e f = let g = subst (λ x. Fits x (b ∷ bs) m) e f in enclosed_fits Quotes 34 b bs m g.inside g.form

bracket_fit : (j : TokenKind) (b : ℕ) (bs : List ℕ) (m : ℕ) → j ≡ K.Bracket → Fits j (b ∷ bs) m
    → EnclosedFits Brackets 91 b bs m
bracket_fit j b bs m e f = let g = subst (λ x. Fits x (b ∷ bs) m) e f in
    enclosed_fits Brackets 91 b bs m g.inside g.form

enclosed_most : (e : Enclosure) (o b : ℕ) (bs : List ℕ) (m n : ℕ) → close e 0 false bs ≡ Some n
    → EnclosedFits e o b bs m → m ≤ 1 + n
enclosed_most e o b bs m n h f = omega (arith, f.size, same_some f.rest n (close e 0 false bs) f.closed h)

enclosed_inside : (e : Enclosure) (b : ℕ) (bs : List ℕ) (n : ℕ) → close e 0 false bs ≡ Some n → 1 + n ≤ length (b ∷ bs)
enclosed_inside e b bs n h = omega (arith, (close_shut e 0 false bs n h).inside)

text_longest : (b : ℕ) (bs : List ℕ) (k : TokenKind) (n : ℕ) → b ≡ 34 → Closed Quotes bs (Found k n)
    → Longest k (b ∷ bs) n
text_longest b bs k n h (unclosed g e) = absurd (cc)
text_longest b bs k n h (spoilt i j g d e) = absurd (cc)
text_longest b bs k n h (whole i g d e) =
    let c = byte_class b 34 3 h quote_class in
    from_found (b ∷ bs) k K.Text (1 + i) n e (record {
      fits = record { inside = enclosed_inside Quotes b bs i g; form = enclosed_made Quotes 34 b bs i h g d; end = tt };
      longest = λ j m f. enclosed_most Quotes 34 b bs m i g
          (text_fit j b bs m (kind_three j (sym c ∙ fits_class j b bs m f)) f);
      only = λ j f. kind_three j (sym c ∙ fits_class j b bs (1 + i) f);
    })

bracket_longest : (b : ℕ) (bs : List ℕ) (k : TokenKind) (n : ℕ) → b ≡ 91 → Closed Brackets bs (Found k n)
    → Longest k (b ∷ bs) n
bracket_longest b bs k n h (unclosed g e) = absurd (cc)
bracket_longest b bs k n h (spoilt i j g d e) = absurd (cc)
bracket_longest b bs k n h (whole i g d e) =
    let c = byte_class b 91 4 h bracket_class in
    from_found (b ∷ bs) k K.Bracket (1 + i) n e (record {
      fits = record {
        inside = enclosed_inside Brackets b bs i g;
        form = enclosed_made Brackets 91 b bs i h g d;
        end = tt;
      };
      longest = λ j m f. enclosed_most Brackets 91 b bs m i g
          (bracket_fit j b bs m (kind_four j (sym c ∙ fits_class j b bs m f)) f);
      only = λ j f. kind_four j (sym c ∙ fits_class j b bs (1 + i) f);
    })

-- ---- bounds and signs

data FiveFit (b : ℕ) (bs : List ℕ) (j : TokenKind) (m : ℕ) : Type 0 where
  as_bounds : j ≡ K.Bounds → BoundsFit b bs m → FiveFit b bs j m
  as_sign : j ≡ K.Sign → m ≡ 1 → (nat_eq b 123 && begins_bounds bs) ≡ false → FiveFit b bs j m

sign_end : (b : ℕ) (bs : List ℕ) (m : ℕ) → m ≡ 1
    → (begins (λ x. nat_eq x 123) (take m (b ∷ bs)) && begins_bounds (drop m (b ∷ bs))) ≡ false
    → (nat_eq b 123 && begins_bounds bs) ≡ false
sign_end b bs m e h =
    let g : (nat_eq b 123 && begins_bounds (drop 0 bs)) ≡ false =
    subst (λ x. (begins (λ y. nat_eq y 123) (take x (b ∷ bs)) && begins_bounds (drop x (b ∷ bs))) ≡ false) e h in
    subst (λ x. (nat_eq b 123 && begins_bounds x) ≡ false) (drop_zero bs) g

five_fit : (j : TokenKind) (b : ℕ) (bs : List ℕ) (m : ℕ) → class b ≡ 5 → Fits j (b ∷ bs) m → FiveFit b bs j m
five_fit K.Name b bs m c f = other b 5 K.Name c (fits_class K.Name b bs m f) (λ e. omega (arith, e))
five_fit K.Qualified b bs m c f = other b 5 K.Qualified c (fits_class K.Qualified b bs m f) (λ e. omega (arith, e))
five_fit K.Keyword b bs m c f = other b 5 K.Keyword c (fits_class K.Keyword b bs m f) (λ e. omega (arith, e))
five_fit K.Number b bs m c f = other b 5 K.Number c (fits_class K.Number b bs m f) (λ e. omega (arith, e))
five_fit K.Text b bs m c f = other b 5 K.Text c (fits_class K.Text b bs m f) (λ e. omega (arith, e))
five_fit K.Bracket b bs m c f = other b 5 K.Bracket c (fits_class K.Bracket b bs m f) (λ e. omega (arith, e))
five_fit K.Bounds b bs m c f = as_bounds refl (bounds_fit b bs m f.inside f.form)
five_fit K.Sign b bs m c f = let z = (sign_fits b m bs f).size in as_sign refl z (sign_end b bs m z f.end)

and_true : (x y : Bool) → x ≡ true → y ≡ true → (x && y) ≡ true
and_true x y h g = rw (h, g) refl

take_one : (b : ℕ) (bs : List ℕ) → take 1 (b ∷ bs) ≡ b ∷ []
take_one b [] = refl
take_one b (c ∷ cs) = refl

sign_made : (b : ℕ) (bs : List ℕ) → is_some (punct b) ≡ true → (nat_eq b 123 && begins_bounds bs) ≡ false
    → Fits K.Sign (b ∷ bs) 1
sign_made b bs h g = record {
  inside = omega arith;
  form = record { byte = b; is = take_one b bs; sign = h };
  end = subst (λ x. (nat_eq b 123 && begins_bounds x) ≡ false) (sym (drop_zero bs)) g;
}

-- a sign where no bounds begin
alone_most : (b : ℕ) (bs : List ℕ) (j : TokenKind) (m : ℕ) → (nat_eq b 123 && begins_bounds bs) ≡ false
    → FiveFit b bs j m → (m ≡ 1) × (j ≡ K.Sign)
alone_most b bs j m g (as_sign e f d) = (f, e)
alone_most b bs j m g (as_bounds e f) =
    differ (nat_eq b 123 && begins_bounds bs)
    (and_true (nat_eq b 123) (begins_bounds bs) (grind (arith, nat_tests, f.byte)) f.begun) g

sign_longest : (b : ℕ) (bs : List ℕ) (k : TokenKind) (n : ℕ) → is_some (punct b) ≡ true
    → (nat_eq b 123 && begins_bounds bs) ≡ false → Found K.Sign 1 ≡ Found k n → Longest k (b ∷ bs) n
sign_longest b bs k n h g e =
    let c = sign_class b h in
    from_found (b ∷ bs) k K.Sign 1 n e (record {
      fits = sign_made b bs h g;
      longest = λ j m f. let r = alone_most b bs j m g (five_fit j b bs m c f) in omega (arith, r.0);
      only = λ j f. (alone_most b bs j 1 g (five_fit j b bs 1 c f)).1;
    })

bounds_most : (b : ℕ) (bs : List ℕ) (j : TokenKind) (m : ℕ) → (nat_eq b 123 && begins_bounds bs) ≡ true
    → FiveFit b bs j m → (m ≡ (parts bs).close + 2) × (j ≡ K.Bounds)
bounds_most b bs j m g (as_sign e f d) = differ (nat_eq b 123 && begins_bounds bs) g d
bounds_most b bs j m g (as_bounds e f) = (f.size, e)

brace_both : (b : ℕ) (bs : List ℕ) → nat_eq b 123 ≡ true → begins_bounds bs ≡ false
    → (nat_eq b 123 && begins_bounds bs) ≡ false
brace_both b bs h g = rw (h, g) refl

brace_longest : (b : ℕ) (bs : List ℕ) (k : TokenKind) (n : ℕ) → nat_eq b 123 ≡ true → Braced bs (Found k n)
    → Longest k (b ∷ bs) n
brace_longest b bs k n h (opening g e) =
    sign_longest b bs k n (ap (λ x. is_some (punct x)) (same_byte b 123 h)) (brace_both b bs h g) e
brace_longest b bs k n h (unmet g d e) = absurd (cc)
brace_longest b bs k n h (wide_least g d l e) = absurd (cc)
brace_longest b bs k n h (wide_most g d l m e) = absurd (cc)
brace_longest b bs k n h (met g d l m e) =
    let q = same_byte b 123 h in
    let c = byte_class b 123 5 q brace_class in
    let z = (parts bs).close + 2 in
    let both = and_true (nat_eq b 123) (begins_bounds bs) h g in
    from_found (b ∷ bs) k K.Bounds z n e (record {
      fits = record {
        inside = omega (arith, (has_is bs (parts bs).close 125 d).0);
        form = bounds_made b bs q g d;
        end = tt;
      };
      longest = λ j i f. let r = bounds_most b bs j i both (five_fit j b bs i c f) in omega (arith, r.0);
      only = λ j f. (bounds_most b bs j z both (five_fit j b bs z c f)).1;
    })

-- ---- all ways

no_brace : (b : ℕ) (bs : List ℕ) → nat_eq b 123 ≡ false → (nat_eq b 123 && begins_bounds bs) ≡ false
no_brace b bs h = rw h refl

way_longest : (b : ℕ) (bs : List ℕ) (k : TokenKind) (n : ℕ) → Way b bs (Found k n) → Longest k (b ∷ bs) n
way_longest b bs k n (letter h e) = name_longest b bs k n h (subst (Named (b ∷ bs)) e (named (b ∷ bs)))
way_longest b bs k n (digit h e) = number_longest b bs k n h (subst (Counted (b ∷ bs)) e (counted (b ∷ bs)))
way_longest b bs k n (quote h e) =
    text_longest b bs k n (same_byte b 34 h) (subst (Closed Quotes bs) e (closed Quotes bs))
way_longest b bs k n (bracket h e) =
    bracket_longest b bs k n (same_byte b 91 h) (subst (Closed Brackets bs) e (closed Brackets bs))
way_longest b bs k n (brace h e) = brace_longest b bs k n h (subst (Braced bs) e (braced bs))
way_longest b bs k n (sign o h e) = sign_longest b bs k n h (no_brace b bs o) e
way_longest b bs k n (none l d q x h e) = absurd (cc)

-- what stands there is the longest that fits
pub longest : (s : List ℕ) (k : TokenKind) (n : ℕ) → stands s ≡ Found k n → Longest k s n
longest [] k n h = absurd (no_token k n h)
longest (b ∷ bs) k n h = way_longest b bs k n (subst (Way b bs) h (way b bs))

-- ---- nothing fits where nothing stands, but for a number that is too wide

none_some : {P : Type 0} (o : Option ℕ) (n : ℕ) → o ≡ None → o ≡ Some n → P
none_some o n h g = let e : None ≡ Some n = sym h ∙ g in absurd (cc)

fault_same : (f g : LexKind) (i j : ℕ) → Fault f i ≡ Fault g j → f ≡ g
fault_same f g i j e = cc e

closed_none : (e : Enclosure) (o b : ℕ) (bs : List ℕ) (m i : ℕ) (f : LexKind) → Closed e bs (Fault f i)
    → EnclosedFits e o b bs m → ⊥
closed_none e o b bs m i f (unclosed h g) q = none_some (close e 0 false bs) q.rest h q.closed
closed_none e o b bs m i f (whole n h d g) q = absurd (cc)
closed_none e o b bs m i f (spoilt n k h d g) q =
    none_some (bad false (take q.rest bs)) k q.escapes
    (ap (λ x. bad false (take x bs)) (same_some q.rest n (close e 0 false bs) q.closed h) ∙ d)

brace_none : (b : ℕ) (bs : List ℕ) (j : TokenKind) (m i : ℕ) (f : LexKind) → f ≢ NumberTooWide → nat_eq b 123 ≡ true
    → Braced bs (Fault f i) → FiveFit b bs j m → ⊥
brace_none b bs j m i f n h (opening g e) q = absurd (cc)
brace_none b bs j m i f n h (unmet g d e) (as_bounds k q) = differ (has bs (parts bs).close 125) q.closed d
brace_none b bs j m i f n h (unmet g d e) (as_sign k z q) =
    differ (nat_eq b 123 && begins_bounds bs) (and_true (nat_eq b 123) (begins_bounds bs) h g) q
brace_none b bs j m i f n h (wide_least g d l e) q = n (sym (fault_same NumberTooWide f _ i e))
brace_none b bs j m i f n h (wide_most g d l x e) q = n (sym (fault_same NumberTooWide f _ i e))
brace_none b bs j m i f n h (met g d l x e) q = absurd (cc)

name_none : (s : List ℕ) (f : LexKind) (i : ℕ) → Named s (Fault f i) → ⊥
name_none s f i (keyword h e) = absurd (cc)
name_none s f i (qualified h q e) = absurd (cc)
name_none s f i (name h q e) = absurd (cc)

number_none : (s : List ℕ) (f : LexKind) (i : ℕ) → f ≢ NumberTooWide → Counted s (Fault f i) → ⊥
number_none s f i n (fits h e) = absurd (cc)
number_none s f i n (wide h e) = n (sym (fault_same NumberTooWide f _ i e))

class_some : (j : TokenKind) → 0 ≡ of_kind j → ⊥
class_some K.Name e = omega (arith, e)
class_some K.Qualified e = omega (arith, e)
class_some K.Keyword e = omega (arith, e)
class_some K.Number e = omega (arith, e)
class_some K.Text e = omega (arith, e)
class_some K.Bracket e = omega (arith, e)
class_some K.Bounds e = omega (arith, e)
class_some K.Sign e = omega (arith, e)

way_none : (b : ℕ) (bs : List ℕ) (f : LexKind) (i : ℕ) (j : TokenKind) (m : ℕ) → f ≢ NumberTooWide
    → Way b bs (Fault f i) → Fits j (b ∷ bs) m → ⊥
way_none b bs f i j m n (letter h e) q = name_none (b ∷ bs) f i (subst (Named (b ∷ bs)) e (named (b ∷ bs)))
way_none b bs f i j m n (digit h e) q = number_none (b ∷ bs) f i n (subst (Counted (b ∷ bs)) e (counted (b ∷ bs)))
way_none b bs f i j m n (quote h e) q =
    let k = kind_three j (sym (byte_class b 34 3 (same_byte b 34 h) quote_class) ∙ fits_class j b bs m q) in
    closed_none Quotes 34 b bs m i f (subst (Closed Quotes bs) e (closed Quotes bs)) (text_fit j b bs m k q)
way_none b bs f i j m n (bracket h e) q =
    let k = kind_four j (sym (byte_class b 91 4 (same_byte b 91 h) bracket_class) ∙ fits_class j b bs m q) in
    closed_none Brackets 91 b bs m i f (subst (Closed Brackets bs) e (closed Brackets bs)) (bracket_fit j b bs m k q)
way_none b bs f i j m n (brace h e) q =
    brace_none b bs j m i f n h (subst (Braced bs) e (braced bs))
    (five_fit j b bs m (byte_class b 123 5 (same_byte b 123 h) brace_class) q)
way_none b bs f i j m n (sign o h e) q = absurd (cc)
way_none b bs f i j m n (none l d x y h e) q = class_some j (sym (none_class b l d x y h) ∙ fits_class j b bs m q)

pub nothing_fits : (b : ℕ) (bs : List ℕ) (f : LexKind) (i : ℕ) → stands (b ∷ bs) ≡ Fault f i → f ≢ NumberTooWide
    → (j : TokenKind) (m : ℕ) → Fits j (b ∷ bs) m → ⊥
nothing_fits b bs f i h n j m q = way_none b bs f i j m n (subst (Way b bs) h (way b bs)) q

-- Signs, names and texts at the front of some bytes.
use Rattle.std.proofs.Common.{◌≡◌, ℕ, suc, ◌+◌, ◌-◌, ◌<◌, ◌≤◌, List, [], ◌∷◌, ◌++◌, length, take, drop, Some, refl, sym}
use Rattle.std.proofs.Common.{ap, subst, ◌∙◌, arith, append_assoc, length-append}
use Rattle.std.specs.Prelude.{Bool, true, false, nat_eq, unwrap_or, chars}
use Rattle.std.specs.Str.{IsAscii}
use Rattle.std.proofs.lemmas.Str.{chars-IsAscii}
use Rattle.std.proofs.lemmas.Str.Ascii.{IsAscii-nil, IsAscii-cons}
use Rattle.std.proofs.lemmas.List.{take_at, drop_at}
use Rattle.std.proofs.lemmas.Bool.Decides.{nat_tests}
use Rattle.std.specs.List.{list_all}
use Rattle.rpl_text.specs.Ascii.{is_letter}
use Rattle.rpl_lexer.specs.declared.punct.Punct.{Punct}
use Rattle.rpl_lexer.specs.declared.punct.Punct.TheVariants.{OpenBrace, CloseBrace, OpenParen, CloseParen, Slash}
use Rattle.rpl_lexer.specs.declared.punct.Punct.TheVariants.{Ampersand, Bang, Greater, Less, Star, Plus, Question, Dot}
use Rattle.rpl_lexer.specs.declared.punct.Punct.TheVariants.{Caret, Dollar, Tilde, Equals, Comma, Colon}
use Rattle.rpl_lexer.specs.declared.token.TokenKind.{TokenKind}
use Rattle.rpl_lexer.specs.declared.token.TokenKind.TheVariants as K
use Rattle.rpl_lexer.specs.Bytes.{is_word, is_blank, run, past, begins, has}
use Rattle.rpl_lexer.specs.Keywords.{is_keyword}
use Rattle.rpl_lexer.specs.Signs.{punct}
use Rattle.rpl_lexer.specs.Braces.{begins_bounds}
use Rattle.rpl_lexer.specs.Gaps.{gap}
use Rattle.rpl_lexer.specs.Fronts.{stands, name_stands, first_name, qualifies}
use Rattle.rpl_lexer.specs.Forms.{IsName, IsPair}
use Rattle.rpl_lexer.specs.Cut.{IsToken}
use Rattle.rpl_lexer.proofs.Spans.{left, right, drop_zero, name_fits, pair_fits}
use Rattle.rpl_syntax.specs.declared.token.Token.{Token}
use Rattle.rpl_syntax.specs.declared.token.Token.TheVariants as T
use Rattle.rpl_syntax.specs.Writing.{mark}
use Rattle.rpl_syntax.specs.Texts.{Says}
use Rattle.rpl_syntax.proofs.Cutting.{payload_of, alone, Lexes}

-- a token that stands there at once
pub tight : (k : TokenKind) (w r : List ℕ) (t : Token) (ts : List Token) → gap false (w ++ r) ≡ 0
    → IsToken (w ++ r) (alone k w) → Says 0 (payload_of k w) t → Lexes r ts → Lexes (w ++ r) (t ∷ ts)
tight k w r t ts g h s l = (
  record {
    kind = k;
    text = w;
    rest = r;
    front = ap (λ n. drop n (w ++ r)) g ∙ drop_zero (w ++ r);
    blanks = omega (arith, g);
    token = h;
    says = s;
  },
  l,
)

pub space : (r : List ℕ) (ts : List Token) → Lexes r ts → Lexes (32 ∷ r) ts
space r [] h = ap suc h
space r (t ∷ ts) h = let c = h.0 in let b = c.blanks in (
  record {
    kind = c.kind;
    text = c.text;
    rest = c.rest;
    front = c.front;
    blanks = omega arith;
    token = c.token;
    says = c.says;
  },
  h.1,
)

-- ---- signs

-- no bounds begin after an opening brace
abbrev pub Free : Punct → List ℕ → Type 0
Free OpenBrace r = begins_bounds r ≡ false
Free k r = Unit {0}

sign_token : (k : Punct) (r : List ℕ) → Free k r → IsToken (mark k ∷ r) (alone K.Sign (mark k ∷ []))
unfolding stands
sign_token OpenBrace r f = record { forward = omega arith; inside = omega arith; stands = rw f refl }
sign_token CloseBrace r f = record { forward = omega arith; inside = omega arith; stands = refl }
sign_token OpenParen r f = record { forward = omega arith; inside = omega arith; stands = refl }
sign_token CloseParen r f = record { forward = omega arith; inside = omega arith; stands = refl }
sign_token Slash r f = record { forward = omega arith; inside = omega arith; stands = refl }
sign_token Ampersand r f = record { forward = omega arith; inside = omega arith; stands = refl }
sign_token Bang r f = record { forward = omega arith; inside = omega arith; stands = refl }
sign_token Greater r f = record { forward = omega arith; inside = omega arith; stands = refl }
sign_token Less r f = record { forward = omega arith; inside = omega arith; stands = refl }
sign_token Star r f = record { forward = omega arith; inside = omega arith; stands = refl }
sign_token Plus r f = record { forward = omega arith; inside = omega arith; stands = refl }
sign_token Question r f = record { forward = omega arith; inside = omega arith; stands = refl }
sign_token Dot r f = record { forward = omega arith; inside = omega arith; stands = refl }
sign_token Caret r f = record { forward = omega arith; inside = omega arith; stands = refl }
sign_token Dollar r f = record { forward = omega arith; inside = omega arith; stands = refl }
sign_token Tilde r f = record { forward = omega arith; inside = omega arith; stands = refl }
sign_token Equals r f = record { forward = omega arith; inside = omega arith; stands = refl }
sign_token Comma r f = record { forward = omega arith; inside = omega arith; stands = refl }
sign_token Colon r f = record { forward = omega arith; inside = omega arith; stands = refl }

-- a mark is no blank, begins no comment, and is read as its sign
record Marks (k : Punct) (r : List ℕ) : Type 0 where
  tight : gap false (mark k ∷ r) ≡ 0
  sign : punct (mark k) ≡ Some k

marks : (k : Punct) (r : List ℕ) → Marks k r
marks OpenBrace r = record { tight = refl; sign = refl }
marks CloseBrace r = record { tight = refl; sign = refl }
marks OpenParen r = record { tight = refl; sign = refl }
marks CloseParen r = record { tight = refl; sign = refl }
marks Slash r = record { tight = refl; sign = refl }
marks Ampersand r = record { tight = refl; sign = refl }
marks Bang r = record { tight = refl; sign = refl }
marks Greater r = record { tight = refl; sign = refl }
marks Less r = record { tight = refl; sign = refl }
marks Star r = record { tight = refl; sign = refl }
marks Plus r = record { tight = refl; sign = refl }
marks Question r = record { tight = refl; sign = refl }
marks Dot r = record { tight = refl; sign = refl }
marks Caret r = record { tight = refl; sign = refl }
marks Dollar r = record { tight = refl; sign = refl }
marks Tilde r = record { tight = refl; sign = refl }
marks Equals r = record { tight = refl; sign = refl }
marks Comma r = record { tight = refl; sign = refl }
marks Colon r = record { tight = refl; sign = refl }

pub sign : (k : Punct) (r : List ℕ) (ts : List Token) → Free k r → Lexes r ts → Lexes (mark k ∷ r) (T.Sign k ∷ ts)
sign k r ts f l =
    let m = marks k r in
    tight K.Sign (mark k ∷ []) r (T.Sign k) ts m.tight (sign_token k r f)
    (ap (λ o. T.Sign (unwrap_or o OpenBrace)) (sym m.sign)) l

-- ---- names

-- a name ends before these bytes, and no dot follows it
pub record Loose (r : List ℕ) : Type 0 where
  pub word : begins is_word r ≡ false
  pub dot : begins (λ b. nat_eq b 46) r ≡ false

each_ascii : (w : List ℕ) → list_all is_word w ≡ true → IsAscii w
each_ascii [] h = IsAscii-nil
each_ascii (b ∷ bs) h =
    IsAscii-cons b bs (word_low b (left (is_word b) (list_all is_word bs) h))
    (each_ascii bs (right (is_word b) (list_all is_word bs) h))
  where
    word_low : (b : ℕ) → is_word b ≡ true → b < 128
    word_low b h = grind (arith, nat_tests)

-- a name consists of ASCII characters
pub name_ascii : (n : List ℕ) (b : Bool) → IsName n b → IsAscii n
name_ascii n b h = each_ascii n (right (begins is_letter n) (list_all is_word n) h.name)

letter_no_gap : (b : ℕ) → is_letter b ≡ true → (is_blank b ≡ false) × (nat_eq b 45 ≡ false)
letter_no_gap b h = (grind (arith, nat_tests), grind (arith, nat_tests))

letter_first : (n r : List ℕ) → begins is_letter n ≡ true → gap false (n ++ r) ≡ 0
letter_first [] r h = absurd (cc)
letter_first (b ∷ s) r h = let p = letter_no_gap b h in rw (p.0, p.1) refl

stands_letter : (s : List ℕ) → begins is_letter s ≡ true → stands s ≡ name_stands s
unfolding stands
stands_letter [] h = absurd (cc)
stands_letter (b ∷ bs) h = rw h refl

name_here : (s : List ℕ) (n : ℕ) → begins is_letter s ≡ true → is_keyword (first_name s) ≡ false
    → qualifies s (run is_word s) ≡ false → n ≡ run is_word s → 0 < n → n ≤ length s
    → IsToken s (record { kind = K.Name; start = 0; end = n })
unfolding name_stands
name_here s n h k q e lt le =
    let z : n - 0 ≡ n = omega arith in
    record { forward = lt; inside = le; stands = rw (drop_zero s, stands_letter s h, z, e, k, q) refl }

pair_here : (s : List ℕ) (n : ℕ) → begins is_letter s ≡ true → is_keyword (first_name s) ≡ false
    → qualifies s (run is_word s) ≡ true → n ≡ past is_word s (run is_word s + 1) → 0 < n → n ≤ length s
    → IsToken s (record { kind = K.Qualified; start = 0; end = n })
unfolding name_stands
pair_here s n h k q e lt le =
    let z : n - 0 ≡ n = omega arith in
    record { forward = lt; inside = le; stands = rw (drop_zero s, stands_letter s h, z, e, k, q) refl }

no_dot : (n r : List ℕ) → begins (λ b. nat_eq b 46) r ≡ false → has (n ++ r) (length n) 46 ≡ false
no_dot [] [] h = refl
no_dot [] (b ∷ r) h = h
no_dot (c ∷ n) r h = no_dot n r h

name_some : (n : List ℕ) → begins is_letter n ≡ true → 0 < length n
name_some [] h = absurd (cc)
name_some (b ∷ s) h = omega arith

pub name : (n r : List ℕ) (ts : List Token) → IsName n false → Loose r → Lexes r ts → Lexes (n ++ r) (T.Name n 0 ∷ ts)
name n r ts h l k =
    let s = n ++ r in
    let m = length n in
    let le : m ≤ length s = omega (arith, length-append n r) in
    let f = name_fits s m false le (subst (λ x. IsName x false) (sym (take_at n r m refl)) h)
    (ap (begins is_word) (drop_at n r m refl) ∙ l.word) in
    let b : begins is_letter n ≡ true = left (begins is_letter n) (list_all is_word n) h.name in
    let d : has s (run is_word s) 46 ≡ false = ap (λ x. has s x 46) (sym f.size) ∙ no_dot n r l.dot in
    let q : qualifies s (run is_word s) ≡ false = rw d refl in
    tight K.Name n r (T.Name n 0) ts (letter_first n r b) (name_here s m f.letter f.word q f.size (name_some n b) le)
    (ap (λ x. T.Name x 0) (sym (chars-IsAscii n (name_ascii n false h)))) k

-- the halves of a qualified name
pub record Halves (p n : List ℕ) : Type 0 where
  pub prefix : first_name (p ++ 46 ∷ n) ≡ p
  pub name : drop (run is_word (p ++ 46 ∷ n) + 1) (p ++ 46 ∷ n) ≡ n

-- a name, a dot and a name are the halves of a qualified name
pub halves : (p n : List ℕ) → IsName p false → IsName n false → Halves p n
halves p n h g =
    let w = p ++ 46 ∷ n in
    let le : length p ≤ length w = omega (arith, length-append p (46 ∷ n)) in
    let o = name_fits w (length p) false le (subst (λ x. IsName x false) (sym (take_at p (46 ∷ n) (length p) refl)) h)
    (ap (begins is_word) (drop_at p (46 ∷ n) (length p) refl)) in
    let one : length p + 1 ≡ length (p ++ 46 ∷ []) = sym (length-append p (46 ∷ [])) in
    record {
      prefix = ap (λ x. take x w) (sym o.size) ∙ take_at p (46 ∷ n) (length p) refl;
      name = ap (λ x. drop (x + 1) w) (sym o.size) ∙ (ap (λ x. drop (length p + 1) x) (sym (append_assoc p (46 ∷ []) n))
          ∙ drop_at (p ++ 46 ∷ []) n (length p + 1) (sym one));
    }

pub pair : (p n r : List ℕ) (ts : List Token) → IsName p false → IsName n false → Loose r → Lexes r ts
    → Lexes ((p ++ 46 ∷ n) ++ r) (T.Qualified p n 0 ∷ ts)
pair p n r ts h g l next =
    let w = p ++ 46 ∷ n in
    let s = w ++ r in
    let m = length w in
    let le : m ≤ length s = omega (arith, length-append w r) in
    let two : IsPair w = record { prefix = p; name = n; is = refl; before = h; behind = g } in
    let f = pair_fits s m le (subst IsPair (sym (take_at w r m refl)) two) (ap (begins is_word) (drop_at w r m refl)
    ∙ l.word) in
    let b : begins is_letter p ≡ true = left (begins is_letter p) (list_all is_word p) h.name in
    let some : 0 < m = omega (arith, length-append p (46 ∷ n), name_some p b) in
    let k = halves p n h g in
    let says : T.Qualified p n 0 ≡ T.Qualified (chars (first_name w)) (chars (drop (run is_word w + 1) w)) 0 =
    ap (λ x. T.Qualified x n 0) (sym (ap chars k.prefix ∙ chars-IsAscii p (name_ascii p false h)))
    ∙ ap (λ x. T.Qualified (chars (first_name w)) x 0) (sym (ap chars k.name
    ∙ chars-IsAscii n (name_ascii n false g))) in
    let gap : gap false s ≡ 0 = ap (gap false) (append_assoc p (46 ∷ n) r) ∙ letter_first p (46 ∷ (n ++ r)) b in
    tight K.Qualified w r (T.Qualified p n 0) ts gap (pair_here s m f.letter f.word f.qualified f.size some le) says
    next

-- No test's text is longer than the file.
use Rattle.std.proofs.Common.{◌≡◌, ℕ, zero, suc, ◌+◌, ◌-◌, ◌<◌, ◌≤◌, Bool, true, false, List, [], ◌∷◌, ◌++◌, length}
use Rattle.std.proofs.Common.{drop}
use Rattle.std.proofs.Common.{map, get_or, Option, Some, None, refl, sym, ap, subst, ◌∙◌, arith, inl, inr}
use Rattle.std.proofs.Common.{length-append}
use Rattle.std.proofs.Common.{length-drop, length-take-le}
use Rattle.std.specs.Prelude.{◌==◌, ◌&&◌, IfSome, IsUtf8, chars, codes, encode_utf8, encode_utf8_all, nat_eq, nat_le}
use Rattle.std.specs.Prelude.{option_and_then, option_map, if◌then◌else◌}
use Rattle.std.specs.Char.{len_utf8}
use Rattle.std.specs.List.{All, onto_first, slice_split}
use Rattle.std.specs.Str.{all_scalars, bytes_eq}
use Rattle.std.proofs.lemmas.Bool.{and_from, cases_Bool, ne_eqb}
use Rattle.std.proofs.lemmas.Bool.Decides.{nat_tests}
use Rattle.std.proofs.lemmas.List.{append-nil}
use Rattle.std.proofs.lemmas.List.Elements.{All-nil, All-cons, All-append}
use Rattle.std.proofs.lemmas.List.Splits.{length-slice_split, slice_split-cons_no}
use Rattle.std.proofs.lemmas.Str.{IsUtf8-between, IsUtf8-drop, IsUtf8-nil, encode_ascii, encodes-chars, inside_one}
use Rattle.std.proofs.lemmas.Str.{length-encode, len_utf8_ascii, len_utf8_bounds}
use Rattle.std.proofs.Math.Utf8.{scalar}
use Rattle.rpl_text.specs.Escapes.{hex, numbered, is_kept, escape}
use Rattle.rpl_text.specs.Characters.{is_char}
use Rattle.rpl_text.proofs.Escaped.{escape_cons, escape_nil, escape_plain}
use Rattle.rpl_lexer.specs.Cut.{IsToken, Chain, Done}
use Rattle.rpl_lexer.specs.Payloads.{decoded, inner, text_of, keyword_of, punct_of, unescaped}
use Rattle.rpl_lexer.specs.declared.token.Token.{Token}
use Rattle.rpl_lexer.specs.declared.token.TokenKind.{TokenKind}
use Rattle.rpl_lexer.specs.declared.token.TokenKind.TheVariants as K
use Rattle.rpl_lexer.specs.declared.keyword.Keyword.{Keyword}
use Rattle.rpl_lexer.specs.declared.keyword.Keyword.TheVariants as W
use Rattle.rpl_lexer.specs.declared.punct.Punct.{Punct}
use Rattle.rpl_lexer.specs.declared.punct.Punct.TheVariants as P
use Rattle.rpl_lexer.proofs.Computing.{cut_found}
use Rattle.rpl_lexer.proofs.Decoding.{decoded_nil, decoded_skip, decoded_cons}
use Rattle.rpl_lexer.proofs.Edges.{token_cuttable}
use Rattle.rpl_lexer.proofs.Spans.{drop_zero, left, right}
use Rattle.rpl_unittest.specs.Comments as S
use Rattle.rpl_unittest.specs.Comments.{Word, Reading, Says, AllSay, HasTests, comment_of, lines_of}
use Rattle.rpl_unittest.specs.inside.Words.{text_in}
use Rattle.rpl_unittest.specs.declared.test.Test.{Test}
use Rattle.rpl_unittest.specs.declared.test.Verb.{Verb}
use Rattle.rpl_unittest.specs.declared.test.Verb.TheVariants as V
use Rattle.rpl_unittest.proofs.Behind.{rest_of}

-- ---- an escape is no shorter than what it stands for

abbrev bytes : List ℕ → ℕ
bytes cs = length (encode_utf8_all cs)

no_pair : {P : Type 0} (c n : ℕ) → ◌≡◌ {A = Option (ℕ × ℕ)} None (Some (c, n)) → P
no_pair c n e = absurd (cc)

pair_same : (d m c n : ℕ) → ◌≡◌ {A = Option (ℕ × ℕ)} (Some (d, m)) (Some (c, n)) → (d ≡ c) × (m ≡ n)
pair_same d m c n e = let k : ◌≡◌ {A = ℕ × ℕ} (d, m) (c, n) = cc in
    (ap (λ (x : ℕ × ℕ). x.0) k, ap (λ (x : ℕ × ℕ). x.1) k)

either : {P : Type 0} (b : Bool) (x y r : Option (ℕ × ℕ)) → (if b then x else y) ≡ r → (b ≡ true → x ≡ r → P)
    → (y ≡ r → P) → P
either true x y r e f g = f refl e
either false x y r e f g = g e

-- one letter for an ASCII character
one : (d c n : ℕ) → d < 128 → ◌≡◌ {A = Option (ℕ × ℕ)} (Some (d, 1)) (Some (c, n)) → len_utf8 c ≤ 1 + n
one d c n lt e =
    let s = pair_same d 1 c n e in
    let w = len_utf8_ascii c (subst (λ x. x < 128) s.0 lt) in omega (arith, w, s.1)

-- a letter and two digits or more for any character
more : (k last c n : ℕ) (o : Option ℕ) → 2 ≤ k → numbered k last o ≡ Some (c, n) → len_utf8 c ≤ 1 + n
more k last c n None le e = no_pair c n e
more k last c n (Some v) le e = either (is_char v && nat_le v last) (Some (v, 1 + k)) None (Some (c, n)) e
    (λ t h. let s = pair_same v (1 + k) c n h in let b = len_utf8_bounds c in omega (arith, b.1, s.1, le))
    (λ h. no_pair c n h)

kept_below : (d : ℕ) → is_kept d ≡ true → d < 128
kept_below d t = grind (arith, nat_tests)

escape_short : (cs : List ℕ) (c n : ℕ) → escape cs ≡ Some (c, n) → len_utf8 c ≤ 1 + n
escape_short [] c n e = no_pair c n (sym escape_nil ∙ e)
escape_short (d ∷ cs) c n e =
    either (is_kept d) _ _ _ (sym (escape_cons d cs) ∙ e) (λ t h. one d c n (kept_below d t) h)
    (λ e1. either (nat_eq d 110) _ _ _ e1 (λ t h. one 10 c n (omega arith) h)
    (λ e2. either (nat_eq d 114) _ _ _ e2 (λ t h. one 13 c n (omega arith) h)
    (λ e3. either (nat_eq d 116) _ _ _ e3 (λ t h. one 9 c n (omega arith) h)
    (λ e4. either (nat_eq d 120) _ _ _ e4 (λ t h. more 2 0x7f c n (hex 2 0 cs) (omega arith) h)
    (λ e5. either (nat_eq d 117) _ _ _ e5 (λ t h. more 4 0x10_ffff c n (hex 4 0 cs) (omega arith) h)
    (λ e6. either (nat_eq d 85) _ _ _ e6 (λ t h. more 8 0x10_ffff c n (hex 8 0 cs) (omega arith) h)
    (λ e7. no_pair c n e7)))))))

bytes_cons : (c : ℕ) (cs : List ℕ) → bytes (c ∷ cs) ≡ len_utf8 c + bytes cs
bytes_cons c cs = length-append (encode_utf8 c) (encode_utf8_all cs) ∙ ap (λ n. n + bytes cs) (length-encode c)

bytes_drop : (k : ℕ) (cs : List ℕ) → k ≤ length cs → k + bytes (drop k cs) ≤ bytes cs
bytes_drop zero cs le = let e = ap bytes (drop_zero cs) in omega (arith, e)
bytes_drop (suc k) [] le = absurd (omega arith)
bytes_drop (suc k) (c ∷ cs) le =
    let i = bytes_drop k cs (omega arith) in
    let b = len_utf8_bounds c in omega (arith, i, bytes_cons c cs, b.0)

-- what an escape stands for, and what is read after it
escaped : (cs : List ℕ) (o : Option (ℕ × ℕ)) → escape cs ≡ o
    → ((k : ℕ) → bytes (decoded k cs) ≤ bytes (drop k cs)) → bytes (unescaped o (λ k. decoded k cs)) ≤ 1 + bytes cs
escaped cs None e ih = omega arith
escaped cs (Some (c, k)) e ih =
    let s = escape_short cs c k e in
    let p = escape_plain cs c k e in
    let d = bytes_drop k cs p.inside in
    let i = ih k in omega (arith, s, d, i, bytes_cons c (decoded k cs))

-- a character at the front, where what is after it is no longer for being read
fronted : (c : ℕ) (cs : List ℕ) (quote slash : Bool) → ((k : ℕ) → bytes (decoded k cs) ≤ bytes (drop k cs))
    → bytes (if quote then [] else (if slash then unescaped (escape cs) (λ k. decoded k cs) else c ∷ decoded 0 cs))
    ≤ bytes (c ∷ cs)
fronted c cs true slash ih = omega arith
fronted c cs false true ih =
    let e = escaped cs (escape cs) refl ih in
    let b = len_utf8_bounds c in omega (arith, e, b.0, bytes_cons c cs)
fronted c cs false false ih =
    let i = ih 0 in
    let z = ap bytes (drop_zero cs) in omega (arith, i, z, bytes_cons c cs, bytes_cons c (decoded 0 cs))

decoded_short : (k : ℕ) (cs : List ℕ) → bytes (decoded k cs) ≤ bytes (drop k cs)
decoded_short k [] = let e = ap bytes (decoded_nil k) in omega (arith, e)
decoded_short (suc k) (c ∷ cs) =
    subst (λ x. bytes x ≤ bytes (drop k cs)) (sym (decoded_skip k c cs)) (decoded_short k cs)
decoded_short zero (c ∷ cs) =
    subst (λ x. bytes x ≤ bytes (c ∷ cs)) (sym (decoded_cons c cs))
    (fronted c cs (nat_eq c 34) (nat_eq c 92) (λ k. decoded_short k cs))

-- a text has no more bytes than what it is a token of
text_short : (s : List ℕ) (t : Token) → IsUtf8 s → IsToken s t → length (encode_utf8_all (text_of s t)) ≤ length s
text_short s t u h =
    let k = token_cuttable s t u h in
    let w = inner s t in
    let v : IsUtf8 w = IsUtf8-between s (t.start + 1) t.end u (omega (arith, h.forward)) k.inner k.end in
    let d = decoded_short 0 (chars w) in
    let z = ap bytes (drop_zero (chars w)) in
    let e = ap length (encodes-chars w v) in
    let l = length-take-le (t.end - (t.start + 1)) (drop (t.start + 1) s)
    (omega (arith, length-drop (t.start + 1) s, h.inside)) in
    omega (arith, d, z, e, l, h.inside)

-- ---- the texts of a reading

-- each text among words, and each of some texts, has n bytes at most
abbrev Few : ℕ → List Word → Type 0
Few n [] = Unit {0}
Few n (w ∷ ws) = IfSome (text_in w) (λ t. bytes t ≤ n) × Few n ws

abbrev Each : ℕ → List (List ℕ) → Type 0
Each n [] = Unit {0}
Each n (t ∷ ts) = (bytes t ≤ n) × Each n ts

of_keyword_few : (n : ℕ) (w : Keyword) → IfSome (text_in (S.of_keyword w)) (λ t. bytes t ≤ n)
of_keyword_few n W.Rpl = tt
of_keyword_few n W.Package = tt
of_keyword_few n W.Import = tt
of_keyword_few n W.As = tt
of_keyword_few n W.Alias = tt
of_keyword_few n W.Local = tt
of_keyword_few n W.Grammar = tt
of_keyword_few n W.In = tt
of_keyword_few n W.End = tt

of_sign_few : (n : ℕ) (p : Punct) → IfSome (text_in (S.of_sign p)) (λ t. bytes t ≤ n)
of_sign_few n P.Comma = tt
of_sign_few n P.OpenBrace = tt
of_sign_few n P.CloseBrace = tt
of_sign_few n P.OpenParen = tt
of_sign_few n P.CloseParen = tt
of_sign_few n P.Slash = tt
of_sign_few n P.Ampersand = tt
of_sign_few n P.Bang = tt
of_sign_few n P.Greater = tt
of_sign_few n P.Less = tt
of_sign_few n P.Star = tt
of_sign_few n P.Plus = tt
of_sign_few n P.Question = tt
of_sign_few n P.Dot = tt
of_sign_few n P.Caret = tt
of_sign_few n P.Dollar = tt
of_sign_few n P.Tilde = tt
of_sign_few n P.Equals = tt
of_sign_few n P.Colon = tt

word_few : (s : List ℕ) (t : Token) (k : TokenKind) → IsUtf8 s → IsToken s t
    → IfSome (text_in (S.word_by k s t)) (λ x. bytes x ≤ length s)
word_few s t K.Name u h = tt
word_few s t K.Qualified u h = tt
word_few s t K.Keyword u h = of_keyword_few (length s) (keyword_of s t)
word_few s t K.Text u h = text_short s t u h
word_few s t K.Bracket u h = tt
word_few s t K.Bounds u h = tt
word_few s t K.Number u h = tt
word_few s t K.Sign u h = of_sign_few (length s) (punct_of s t)

words_few : (s : List ℕ) (p m : ℕ) (ts : List Token) → IsUtf8 s → Chain s p m ts Done
    → Few (length s) (map (S.word_in s) ts)
words_few s p m [] u h = tt
words_few s p m (t ∷ ts) u h = (word_few s t t.kind u h.0.token, words_few s t.end (m + 1) ts u h.1)

if_then : {A B : Type 0} (f : A → Option B) (o : Option A) (P : A → Type 0) (Q : B → Type 0) → IfSome o P
    → ((a : A) → P a → IfSome (f a) Q) → IfSome (option_and_then f o) Q
if_then f None P Q h g = tt
if_then f (Some a) P Q h g = g a h

mapped : {A B : Type 0} (f : A → B) (o : Option A) (P : A → Type 0) (Q : B → Type 0) → IfSome o P
    → ((a : A) → P a → Q (f a)) → IfSome (option_map f o) Q
mapped f None P Q h g = tt
mapped f (Some a) P Q h g = g a h

name_few : (n : ℕ) (ws : List Word) → Few n ws → IfSome (S.name_first ws) (λ p. Few n p.1)
name_few n [] h = tt
name_few n (S.Name b ∷ ws) h = h.1
name_few n (S.Qualified b ∷ ws) h = tt
name_few n (S.Local ∷ ws) h = tt
name_few n (S.Text t ∷ ws) h = tt
name_few n (S.Comma ∷ ws) h = tt
name_few n (S.Other ∷ ws) h = tt

part_few : (n : ℕ) (ws : List Word) → Few n ws → IfSome (S.part_first ws) (λ p. Few n p.1)
part_few n [] h = tt
part_few n (S.Name b ∷ ws) h = h.1
part_few n (S.Qualified b ∷ ws) h = h.1
part_few n (S.Local ∷ ws) h = tt
part_few n (S.Text t ∷ ws) h = tt
part_few n (S.Comma ∷ ws) h = tt
part_few n (S.Other ∷ ws) h = tt

local_few : (n : ℕ) (ws : List Word) → Few n ws → Few n (S.past_local ws)
local_few n [] h = h
local_few n (S.Name b ∷ ws) h = h
local_few n (S.Qualified b ∷ ws) h = h
local_few n (S.Local ∷ ws) h = h.1
local_few n (S.Text t ∷ ws) h = h
local_few n (S.Comma ∷ ws) h = h
local_few n (S.Other ∷ ws) h = h

texts_few : (n : ℕ) (ws : List Word) → Few n ws → IfSome (S.texts_of ws) (Each n)
texts_few n [] h = tt
texts_few n (S.Name b ∷ ws) h = tt
texts_few n (S.Qualified b ∷ ws) h = tt
texts_few n (S.Local ∷ ws) h = tt
texts_few n (S.Comma ∷ ws) h = tt
texts_few n (S.Other ∷ ws) h = tt
texts_few n (S.Text t ∷ []) h = (h.0, tt)
texts_few n (S.Text t ∷ S.Comma ∷ ws) h =
    mapped (λ ts. t ∷ ts) (S.texts_of ws) (Each n) (Each n) (texts_few n ws h.1.1) (λ ts e. (h.0, e))
texts_few n (S.Text t ∷ S.Name b ∷ ws) h = tt
texts_few n (S.Text t ∷ S.Qualified b ∷ ws) h = tt
texts_few n (S.Text t ∷ S.Local ∷ ws) h = tt
texts_few n (S.Text t ∷ S.Text x ∷ ws) h = tt
texts_few n (S.Text t ∷ S.Other ∷ ws) h = tt

part_for_few : (n : ℕ) (v : Verb) (ws : List Word) → Few n ws → IfSome (S.part_for v ws) (λ p. Few n p.1)
part_for_few n V.Accepts ws h = h
part_for_few n V.Rejects ws h = h
part_for_few n V.Includes ws h = mapped S.with_part (S.part_first ws) _ (λ p. Few n p.1) (part_few n ws h) (λ p k. k)
part_for_few n V.Excludes ws h = mapped S.with_part (S.part_first ws) _ (λ p. Few n p.1) (part_few n ws h) (λ p k. k)

abbrev IsFew : ℕ → Reading → Type 0
IsFew n r = Each n r.texts

of_part_few : (n : ℕ) (name : List ℕ) (v : Verb) (p : Option (List ℕ) × List Word) → Few n p.1
    → IfSome (S.of_part name v p) (IsFew n)
of_part_few n name v (part, rest) h = mapped _ (S.texts_of rest) (Each n) (IsFew n) (texts_few n rest h) (λ ts e. e)

of_verb_few : (n : ℕ) (name : List ℕ) (rest : List Word) (v : Verb) → Few n rest
    → IfSome (S.of_verb name rest v) (IsFew n)
of_verb_few n name rest v h =
    if_then (S.of_part name v) (S.part_for v rest) (λ p. Few n p.1) (IsFew n) (part_for_few n v rest h)
    (of_part_few n name v)

any : {A : Type 0} (o : Option A) → IfSome o (λ a. Unit {0})
any None = tt
any (Some a) = tt

of_word_few : (n : ℕ) (name : List ℕ) (p : List ℕ × List Word) → Few n p.1 → IfSome (S.of_word name p) (IsFew n)
of_word_few n name (word, rest) h =
    if_then (S.of_verb name rest) (S.verb_of word) (λ v. Unit {0}) (IsFew n) (any (S.verb_of word))
    (λ v k. of_verb_few n name rest v h)

of_name_few : (n : ℕ) (p : List ℕ × List Word) → Few n p.1 → IfSome (S.of_name p) (IsFew n)
of_name_few n (name, rest) h =
    if_then (S.of_word name) (S.name_first rest) (λ p. Few n p.1) (IsFew n) (name_few n rest h) (of_word_few n name)

if_so : {A : Type 0} (b : Bool) (o : Option A) (Q : A → Type 0) → IfSome o Q → IfSome (if b then o else None) Q
if_so true o Q h = h
if_so false o Q h = tt

of_test_few : (n : ℕ) (p : List ℕ × List Word) → Few n p.1 → IfSome (S.of_test p) (IsFew n)
of_test_few n (word, rest) h =
    let ws = S.past_local rest in
    if_so (bytes_eq word (codes "test")) (option_and_then S.of_name (S.name_first ws)) (IsFew n)
    (if_then S.of_name (S.name_first ws) (λ p. Few n p.1) (IsFew n) (name_few n ws (local_few n rest h))
    (of_name_few n))

reading_few : (n : ℕ) (ws : List Word) → Few n ws → IfSome (S.reading_of ws) (IsFew n)
reading_few n ws h = if_then S.of_test (S.name_first ws) (λ p. Few n p.1) (IsFew n) (name_few n ws h) (of_test_few n)

-- ---- the tests of lines

abbrev IsShort : ℕ → Test → Type 0
IsShort m t = length (encode_utf8_all t.text) ≤ m

abbrev AreShort : ℕ → List Test → Type 0
AreShort m = All (IsShort m)

made_short : (n k m : ℕ) (r : Reading) (ts : List (List ℕ)) → k ≤ m → Each k ts → AreShort m (map (S.test_by n r) ts)
made_short n k m r [] le h = All-nil (IsShort m)
made_short n k m r (t ∷ ts) le h =
    All-cons (IsShort m) (S.test_by n r t) (map (S.test_by n r) ts)
    (omega (arith, h.0, le)) (made_short n k m r ts le h.1)

-- a text of m bytes at most
abbrev IsPart : ℕ → List ℕ → Type 0
IsPart m l = IsUtf8 l × (length l ≤ m)

says_short : (n m : ℕ) (o : Option (List ℕ)) (tests : List Test) → IfSome o (IsPart m) → Says n o tests
    → AreShort m tests
says_short n m None tests h e = subst (AreShort m) (sym e) (All-nil (IsShort m))
says_short n m (Some rest) tests h (ts, r, cut, e, is) =
    let few = reading_few (length rest) (map (S.word_in rest) ts) (words_few rest 0 0 ts h.0 (cut_found rest ts cut)) in
    let each = subst (λ o. IfSome o (IsFew (length rest))) e few in
    subst (AreShort m) (sym is) (made_short n (length rest) m r r.texts h.1 each)

rest_part : (m : ℕ) (line : List ℕ) (o : Option (List ℕ)) → IsPart m line → comment_of line ≡ o → IfSome o (IsPart m)
rest_part m line None h e = tt
rest_part m line (Some rest) h e =
    let r = rest_of line rest h.0 e in
    let n = length line - length rest in
    (subst IsUtf8 r.left (IsUtf8-drop line n h.0 r.place), omega (arith, r.less, h.1))

abbrev AreParts : ℕ → List (List ℕ) → Type 0
AreParts m [] = Unit {0}
AreParts m (l ∷ ls) = IsPart m l × AreParts m ls

lines_short : (n m : ℕ) (ls : List (List ℕ)) (tests : List Test) → AreParts m ls → AllSay n ls tests → AreShort m tests
lines_short n m [] tests h e = subst (AreShort m) (sym e) (All-nil (IsShort m))
lines_short n m (l ∷ ls) tests h (here, others, says, say, is) =
    subst (AreShort m) (sym is) (All-append (IsShort m) here others
    (says_short n m (comment_of l) here (rest_part m l (comment_of l) h.0 refl) says)
    (lines_short (n + 1) m ls others h.1 say))

-- ---- the lines of a text

abbrev is_end : ℕ → Bool
is_end b = b == 10

abbrev NoEnd : List ℕ → Type 0
NoEnd [] = Unit {0}
NoEnd (b ∷ bs) = (is_end b ≡ false) × NoEnd bs

no_end : (bs : List ℕ) → ((k : ℕ) → k < length bs → get_or bs k 0 ≡ 10 → ⊥) → NoEnd bs
no_end [] h = tt
no_end (b ∷ bs) h = (ne_eqb b 10 (h 0 (omega arith)), no_end bs (λ k lt e. h (suc k) (omega arith) e))

over : (xs ys f : List ℕ) (fs : List (List ℕ)) → NoEnd xs → slice_split is_end ys ≡ f ∷ fs
    → slice_split is_end (xs ++ ys) ≡ (xs ++ f) ∷ fs
over [] ys f fs n e = e
over (x ∷ xs) ys f fs n e = slice_split-cons_no is_end x (xs ++ ys) n.0 ∙ ap (onto_first x) (over xs ys f fs n.1 e)

char_no_end : (c : ℕ) → (c ≡ 10 → ⊥) → NoEnd (encode_utf8 c)
char_no_end c n = no_end (encode_utf8 c) (λ k lt e.
    let i = inside_one c [] (encode_utf8 c) k (sym (append-nil (encode_utf8 c))) lt
    (subst (λ x. x < 128) (sym e) (omega arith)) in
    n (i ∙ e))

parts_up : (m k : ℕ) (ls : List (List ℕ)) → m ≤ k → AreParts m ls → AreParts k ls
parts_up m k [] le h = tt
parts_up m k (l ∷ ls) le h = ((h.0.0, omega (arith, h.0.1, le)), parts_up m k ls le h.1)

with_char : (c : ℕ) (l : List ℕ) → scalar c ≡ true → IsUtf8 l → IsUtf8 (encode_utf8 c ++ l)
with_char c l s (cs, (t, e)) = (c ∷ cs, (and_from (scalar c) (all_scalars cs) s t, ap (λ x. encode_utf8 c ++ x) e))

longer : (c : ℕ) (cs : List ℕ) (ls : List (List ℕ)) → scalar c ≡ true → (c ≡ 10 → ⊥)
    → slice_split is_end (encode_utf8_all cs) ≡ ls
    → AreParts (bytes cs) ls → AreParts (bytes (c ∷ cs)) (slice_split is_end (encode_utf8_all (c ∷ cs)))
longer c cs [] s n e h =
    let l = ap length e in
    let k = length-slice_split is_end (encode_utf8_all cs) in absurd (omega (arith, l, k))
longer c cs (f ∷ fs) s n e h =
    let z = over (encode_utf8 c) (encode_utf8_all cs) f fs (char_no_end c n) e in
    let k = bytes_cons c cs in
    subst (AreParts (bytes (c ∷ cs))) (sym z) (
      (with_char c f s h.0.0, omega (arith, k, h.0.1, length-append (encode_utf8 c) f, length-encode c)),
      parts_up (bytes cs) (bytes (c ∷ cs)) fs (omega (arith, k)) h.1,
    )

ended : (c : ℕ) (cs : List ℕ) → c ≡ 10 → AreParts (bytes cs) (slice_split is_end (encode_utf8_all cs))
    → AreParts (bytes (c ∷ cs)) (slice_split is_end (encode_utf8_all (c ∷ cs)))
ended c cs e h =
    let k = bytes_cons 10 cs in
    let rest = encode_utf8_all cs in
    let front : encode_utf8 10 ++ rest ≡ 10 ∷ rest = ap (λ x. x ++ rest) (encode_ascii 10 (omega arith)) in
    let z : slice_split is_end (encode_utf8 10 ++ rest) ≡ [] ∷ slice_split is_end rest =
    ap (slice_split is_end) front in
    subst (λ x. AreParts (bytes (x ∷ cs)) (slice_split is_end (encode_utf8_all (x ∷ cs)))) (sym e)
    (subst (AreParts (bytes (10 ∷ cs))) (sym z) (
      (IsUtf8-nil, omega arith),
      parts_up (bytes cs) (bytes (10 ∷ cs)) (slice_split is_end rest) (omega (arith, k)) h,
    ))

same_number : (c : ℕ) → nat_eq c 10 ≡ true → c ≡ 10
same_number c t = grind (arith, nat_tests)

other : (c : ℕ) → nat_eq c 10 ≡ false → c ≡ 10 → ⊥
other c f e = grind (arith, nat_tests)

lines_parts : (cs : List ℕ) → all_scalars cs ≡ true → AreParts (bytes cs) (lines_of (encode_utf8_all cs))
lines_parts [] s = ((IsUtf8-nil, omega arith), tt)
lines_parts (c ∷ cs) s =
    let more = lines_parts cs (right (scalar c) (all_scalars cs) s) in
    elim (cases_Bool (nat_eq c 10)) [
      | inl t ↦ ended c cs (same_number c t) more
      | inr f ↦ longer c cs (slice_split is_end (encode_utf8_all cs)) (left (scalar c) (all_scalars cs) s) (other c f)
          refl more
    ]

pub tests_short : (text : List ℕ) (tests : List Test) → IsUtf8 text → HasTests text tests
    → All (λ t. length (encode_utf8_all t.text) ≤ length text) tests
tests_short text tests (cs, (s, e)) h =
    subst (λ x. HasTests x tests → AreShort (length x) tests) e
    (λ k. lines_short 1 (bytes cs) (lines_of (encode_utf8_all cs)) tests (lines_parts cs s) k) h

-- The text of each test of a file is of characters.
use Rattle.std.proofs.Common.{ℕ, zero, suc, ◌≡◌, ◌+◌, ◌-◌, ◌<◌, ◌≤◌, inl, inr, Bool, true, false, List, [], ◌∷◌}
use Rattle.std.proofs.Common.{length, get_or, refl, sym, subst, arith}
use Rattle.std.specs.Prelude.{◌==◌, Option, Some, None, codes, map, nat_lt, option_and_then, option_map, if◌then◌else◌}
use Rattle.std.specs.List.{All, after_first, before_first, position_or_len, slice_split}
use Rattle.std.specs.Str.{IsUtf8, all_scalars, bytes_eq, is_utf8}
use Rattle.std.proofs.lemmas.Bool.{cases_Bool}
use Rattle.std.proofs.lemmas.Bool.Decides.{nat_tests}
use Rattle.std.proofs.lemmas.Grind.{common_steps}
use Rattle.std.proofs.lemmas.List.{length-drop}
use Rattle.std.proofs.lemmas.List.Elements.{All-append, All-cons, All-head, All-map, All-nil, All-tail}
use Rattle.std.proofs.lemmas.List.Splits.{slice_split_first, slice_split_none}
use Rattle.std.proofs.lemmas.List.Sums.{fails_before_first, passes_at_first}
use Rattle.std.proofs.lemmas.Str.{IsCharBoundary-after_ascii, IsCharBoundary-before_ascii, IsUtf8-drop, IsUtf8-take}
use Rattle.std.proofs.lemmas.Str.{IsUtf8-from_is_utf8}
use Rattle.rpl_lexer.specs.Cut.{Chain, Done, IsToken}
use Rattle.rpl_lexer.specs.Forms.{Form}
use Rattle.rpl_lexer.specs.Payloads.{keyword_of, punct_of, span, text_of}
use Rattle.rpl_lexer.specs.declared.keyword.Keyword.{Keyword}
use Rattle.rpl_lexer.specs.declared.keyword.Keyword.TheVariants as W
use Rattle.rpl_lexer.specs.declared.punct.Punct.{Punct}
use Rattle.rpl_lexer.specs.declared.punct.Punct.TheVariants as P
use Rattle.rpl_lexer.specs.declared.token.Token.{Token}
use Rattle.rpl_lexer.specs.declared.token.TokenKind.{TokenKind}
use Rattle.rpl_lexer.specs.declared.token.TokenKind.TheVariants as K
use Rattle.rpl_lexer.proofs.Computing.{cut_found}
use Rattle.rpl_syntax.specs.declared.token.Token.TheVariants as T
use Rattle.rpl_syntax.proofs.Said.{form_of, token_fit}
use Rattle.rpl_unittest.proofs.Behind.{rest_of}
use Rattle.rpl_unittest.specs.Comments.{AllSay, HasTests, Says, comment_of, lines_of, test_by, word_by, word_in}
use Rattle.rpl_unittest.specs.Comments.{Comma, Local, Name, Qualified, Reading, Text, Word, name_first, of_keyword}
use Rattle.rpl_unittest.specs.Comments.{of_name, of_part, of_sign, of_test, of_verb, of_word, part_first, part_for}
use Rattle.rpl_unittest.specs.Comments.{past_local, reading_of, texts_of, verb_of, with_part}
use Rattle.rpl_unittest.specs.declared.test.Test.{Test}
use Rattle.rpl_unittest.specs.declared.test.Verb.{Verb}
use Rattle.rpl_unittest.specs.declared.test.Verb.TheVariants as V

-- ---- the lines of a text are texts

abbrev feed : ℕ → Bool
feed b = b == 10

is_feed : (b : ℕ) → feed b ≡ true → b ≡ 10
is_feed b e = grind (arith, nat_tests)

-- a line feed is a character of its own
parts_utf8 : (bs : List ℕ) → IsUtf8 bs → position_or_len feed bs < length bs
    → IsUtf8 (before_first feed bs) × IsUtf8 (after_first feed bs)
parts_utf8 bs u lt =
    let k = position_or_len feed bs in
    let at = is_feed (get_or bs k 0) (passes_at_first feed bs 0 lt) in
    let small : get_or bs k 0 < 128 = omega (arith, at) in (
      IsUtf8-take bs k u (IsCharBoundary-before_ascii bs k lt small),
      IsUtf8-drop bs (k + 1) u (IsCharBoundary-after_ascii bs k u lt small),
    )

none_feed : (bs : List ℕ) → length bs ≤ position_or_len feed bs → All (λ b. feed b ≡ false) bs
none_feed bs long = λ k d lt. let e = fails_before_first feed bs k d (omega (arith, long, lt)) in
    grind (arith, common_steps)

no_feeds : (bs : List ℕ) → IsUtf8 bs → length bs ≤ position_or_len feed bs → All IsUtf8 (slice_split feed bs)
no_feeds bs u long =
    subst (All IsUtf8) (sym (slice_split_none feed bs (none_feed bs long)))
    (All-cons IsUtf8 bs [] u (All-nil IsUtf8))

lines_utf8 : (n : ℕ) (bs : List ℕ) → length bs ≤ n → IsUtf8 bs → All IsUtf8 (slice_split feed bs)
lines_utf8 zero bs long u = no_feeds bs u (omega (arith, long))
lines_utf8 (suc n) bs long u = elim (cases_Bool (nat_lt (position_or_len feed bs) (length bs))) [
  | inl e ↦
      let lt : position_or_len feed bs < length bs = grind (arith, nat_tests) in
      let parts = parts_utf8 bs u lt in
      let k = length-drop (position_or_len feed bs + 1) bs in
      subst (All IsUtf8) (sym (slice_split_first feed bs 0 lt))
      (All-cons IsUtf8 (before_first feed bs) (slice_split feed (after_first feed bs)) parts.0
      (lines_utf8 n (after_first feed bs) (omega (arith, long, lt, k)) parts.1))
  | inr e ↦ no_feeds bs u (grind (arith, nat_tests))
]

-- ---- the texts among the words of a line are of characters

abbrev IsFit : Word → Type 0
IsFit (Text t) = all_scalars t ≡ true
IsFit _ = Unit {0}

abbrev AreFit : List Word → Type 0
AreFit [] = Unit {0}
AreFit (w ∷ ws) = IsFit w × AreFit ws

keyword_fit : (k : Keyword) → IsFit (of_keyword k)
keyword_fit W.Rpl = tt
keyword_fit _ = tt

sign_fit : (p : Punct) → IsFit (of_sign p)
sign_fit P.OpenBrace = tt
sign_fit _ = tt

word_fit : (k : TokenKind) (s : List ℕ) (t : Token) → IsUtf8 s → IsToken s t → Form k (span s t) → IsFit (word_by k s t)
word_fit K.Keyword s t u h f = keyword_fit (keyword_of s t)
word_fit K.Text s t u h f = token_fit K.Text s t (T.Text (text_of s t)) u h f refl
word_fit K.Sign s t u h f = sign_fit (punct_of s t)
word_fit _ s t u h f = tt

words_fit : (s : List ℕ) (p n : ℕ) (ts : List Token) → IsUtf8 s → Chain s p n ts Done → AreFit (map (word_in s) ts)
words_fit s p n [] u c = tt
words_fit s p n (t ∷ ts) u c =
    let h = c.0.token in (word_fit t.kind s t u h (form_of s t h), words_fit s t.end (n + 1) ts u c.1)

-- ---- and so are those of what they are read as

abbrev AreTexts : List (List ℕ) → Type 0
AreTexts = All (λ t. all_scalars t ≡ true)

mapped : {X Y : Type 0} (f : X → Y) (o : Option X) (y : Y) → option_map f o ≡ Some y
    → (x : X) × (o ≡ Some x) × (f x ≡ y)
mapped f None y e = absurd (cc)
mapped f (Some x) y e = (x, refl, cc)

bound : {X Y : Type 0} (f : X → Option Y) (o : Option X) (y : Y) → option_and_then f o ≡ Some y
    → (x : X) × (o ≡ Some x) × (f x ≡ Some y)
bound f None y e = absurd (cc)
bound f (Some x) y e = (x, refl, e)

chosen : {Y : Type 0} (b : Bool) (o : Option Y) (y : Y) → (if b then o else None) ≡ Some y → o ≡ Some y
chosen true o y e = e
chosen false o y e = absurd (cc)

abbrev RestFits : Option (List ℕ × List Word) → Type 0
RestFits None = Unit {0}
RestFits (Some p) = AreFit p.1

name_first_fits : (ws : List Word) → AreFit ws → RestFits (name_first ws)
name_first_fits (Name n ∷ ws) f = f.1
name_first_fits _ f = tt

part_first_fits : (ws : List Word) → AreFit ws → RestFits (part_first ws)
part_first_fits (Name n ∷ ws) f = f.1
part_first_fits (Qualified n ∷ ws) f = f.1
part_first_fits _ f = tt

past_local_fits : (ws : List Word) → AreFit ws → AreFit (past_local ws)
past_local_fits (Local ∷ ws) f = f.1
past_local_fits _ f = f

rest_fits : (o : Option (List ℕ × List Word)) (p : List ℕ × List Word) → RestFits o → o ≡ Some p → AreFit p.1
rest_fits o p f e = subst RestFits e f

asked_fits : (ws : List Word) (p : Option (List ℕ) × List Word) → AreFit ws
    → option_map with_part (part_first ws) ≡ Some p → AreFit p.1
asked_fits ws p f e =
    let m = mapped with_part (part_first ws) p e in
    subst (λ (x : Option (List ℕ) × List Word). AreFit x.1) m.2
    (rest_fits (part_first ws) m.0 (part_first_fits ws f) m.1)

part_fits : (v : Verb) (ws : List Word) (p : Option (List ℕ) × List Word) → AreFit ws → part_for v ws ≡ Some p
    → AreFit p.1
part_fits V.Includes ws p f e = asked_fits ws p f e
part_fits V.Excludes ws p f e = asked_fits ws p f e
part_fits _ ws p f e =
    let same : (None, ws) ≡ p = cc in subst (λ (x : Option (List ℕ) × List Word). AreFit x.1) same f

texts_fit : (ws : List Word) (ts : List (List ℕ)) → AreFit ws → texts_of ws ≡ Some ts → AreTexts ts
texts_fit (Text t ∷ []) ts f e =
    let same : t ∷ [] ≡ ts = cc in
    subst AreTexts same (All-cons (λ x. all_scalars x ≡ true) t [] f.0 (All-nil (λ x. all_scalars x ≡ true)))
texts_fit (Text t ∷ Comma ∷ ws) ts f e =
    let m = mapped (λ x. t ∷ x) (texts_of ws) ts e in
    subst AreTexts m.2 (All-cons (λ x. all_scalars x ≡ true) t m.0 f.0 (texts_fit ws m.0 f.1.1 m.1))
texts_fit _ ts f e = absurd (cc)

part_read : (name : List ℕ) (v : Verb) (p : Option (List ℕ) × List Word) (r : Reading) → AreFit p.1
    → of_part name v p ≡ Some r → AreTexts r.texts
part_read name v (part, ws) r f e =
    let m = mapped (λ texts. record { name = name; verb = v; part = part; texts = texts }) (texts_of ws) r e in
    subst (λ (x : Reading). AreTexts x.texts) m.2 (texts_fit ws m.0 f m.1)

verb_read : (name : List ℕ) (p : List ℕ × List Word) (r : Reading) → AreFit p.1 → of_word name p ≡ Some r
    → AreTexts r.texts
verb_read name (word, ws) r f e =
    let v = bound (of_verb name ws) (verb_of word) r e in
    let p = bound (of_part name v.0) (part_for v.0 ws) r v.2 in
    part_read name v.0 p.0 r (part_fits v.0 ws p.0 f p.1) p.2

name_read : (p : List ℕ × List Word) (r : Reading) → AreFit p.1 → of_name p ≡ Some r → AreTexts r.texts
name_read (name, ws) r f e =
    let w = bound (of_word name) (name_first ws) r e in
    verb_read name w.0 r (rest_fits (name_first ws) w.0 (name_first_fits ws f) w.1) w.2

test_read : (p : List ℕ × List Word) (r : Reading) → AreFit p.1 → of_test p ≡ Some r → AreTexts r.texts
test_read (word, ws) r f e =
    let rest = past_local ws in
    let n = bound of_name (name_first rest) r
    (chosen (bytes_eq word (codes "test")) (option_and_then of_name (name_first rest)) r e) in
    name_read n.0 r (rest_fits (name_first rest) n.0 (name_first_fits rest (past_local_fits ws f)) n.1) n.2

read_fit : (ws : List Word) (r : Reading) → AreFit ws → reading_of ws ≡ Some r → AreTexts r.texts
read_fit ws r f e =
    let t = bound of_test (name_first ws) r e in
    test_read t.0 r (rest_fits (name_first ws) t.0 (name_first_fits ws f) t.1) t.2

-- ---- the tests of a text

abbrev AreOfText : List Test → Type 0
AreOfText = All (λ (t : Test). all_scalars t.text ≡ true)

line_fits : (n : ℕ) (line : List ℕ) (o : Option (List ℕ)) (tests : List Test) → IsUtf8 line → comment_of line ≡ o
    → Says n o tests → AreOfText tests
line_fits n line None tests u e h = subst AreOfText (sym h) (All-nil (λ (t : Test). all_scalars t.text ≡ true))
line_fits n line (Some rest) tests u e h =
    let r = rest_of line rest u e in
    let text = subst IsUtf8 r.left (IsUtf8-drop line (length line - length rest) u r.place) in
    let fit = read_fit (map (word_in rest) h.0) h.1 (words_fit rest 0 0 h.0 text (cut_found rest h.0 h.2)) h.3 in
    subst AreOfText (sym h.4) (All-map (λ (t : Test). all_scalars t.text ≡ true) (test_by n h.1) h.1.texts fit)

lines_fit : (n : ℕ) (lines : List (List ℕ)) (tests : List Test) → All IsUtf8 lines → AllSay n lines tests
    → AreOfText tests
lines_fit n [] tests u h = subst AreOfText (sym h) (All-nil (λ (t : Test). all_scalars t.text ≡ true))
lines_fit n (line ∷ more) tests u h =
    subst AreOfText (sym h.4)
    (All-append (λ (t : Test). all_scalars t.text ≡ true) h.0 h.1
    (line_fits n line (comment_of line) h.0 (All-head IsUtf8 line more u) refl h.2)
    (lines_fit (n + 1) more h.1 (All-tail IsUtf8 line more u) h.3))

-- the text of each test in a UTF-8 text consists of characters
pub tests_are_of_text : (text : List ℕ) (tests : List Test) → is_utf8 text ≡ true → HasTests text tests
    → All (λ (t : Test). all_scalars t.text ≡ true) tests
tests_are_of_text text tests u h =
    lines_fit 1 (lines_of text) tests (lines_utf8 (length text) text (omega arith) (IsUtf8-from_is_utf8 text u)) h

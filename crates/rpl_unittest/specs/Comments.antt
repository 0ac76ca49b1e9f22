-- The tests of a file: which lines are test comments, and what each says.
use Rattle.std.specs.Prelude.{◌≡◌, ◌⊎◌, ℕ, ◌+◌, ◌==◌, Bool, false, nat_eq, List, [], ◌∷◌, ◌++◌, drop, map, codes, chars}
use Rattle.std.specs.Prelude.{Option, Some, None, option_map, option_and_then, Ok, Err, if◌then◌else◌}
use Rattle.std.specs.List.{slice_split}
use Rattle.std.specs.Option.{option_map_or}
use Rattle.std.specs.Str.{bytes_eq}
use Rattle.rpl_lexer.specs.Bytes.{is_space, run, begins}
use Rattle.rpl_lexer.specs.Cutting.{cut_of}
use Rattle.rpl_lexer.specs.Payloads.{span, text_of, keyword_of, punct_of}
use Rattle.rpl_lexer.specs.declared.token.TokenKind.{TokenKind}
use Rattle.rpl_lexer.specs.declared.token.TokenKind.TheVariants as K
use Rattle.rpl_lexer.specs.declared.keyword.Keyword.{Keyword}
use Rattle.rpl_lexer.specs.declared.punct.Punct.{Punct}
use Rattle.rpl_lexer.specs.declared.token.Token.{Token}
use Rattle.rpl_lexer.specs.declared.fault.LexFault.{LexFault}
use Rattle.rpl_lexer.specs.declared.keyword.Keyword.TheVariants as W
use Rattle.rpl_lexer.specs.declared.punct.Punct.TheVariants as P
use Rattle.rpl_unittest.specs.declared.test.Test.{Test}
use Rattle.rpl_unittest.specs.declared.test.Verb.{Verb}
use Rattle.rpl_unittest.specs.declared.test.Verb.TheVariants as V

-- ---- which lines are test comments

-- what stands after a front, if the bytes begin with it
abbrev pub behind : List ℕ → List ℕ → Option (List ℕ)
behind [] bs = Some bs
behind (w ∷ ws) [] = None
behind (w ∷ ws) (b ∷ bs) = if nat_eq w b then behind ws bs else None

-- without the spaces and tabs at the front
abbrev pub trimmed : List ℕ → List ℕ
trimmed bs = drop (run is_space bs) bs

-- there are bytes, and they begin with a space or a tab
abbrev pub goes_on : Option (List ℕ) → Bool
goes_on rest = option_map_or (begins is_space) rest false

-- the word `test` comes next, with a space or a tab after it
abbrev pub if_test : Option (List ℕ) → Option (List ℕ)
if_test = option_and_then (λ rest. if goes_on (behind (codes "test") (trimmed rest)) then Some rest else None)

-- what stands after the dashes of a test comment; of any other line, nothing
abbrev pub comment_of : List ℕ → Option (List ℕ)
comment_of line = if_test (behind (codes "--") (trimmed line))

-- ---- what a test comment says

-- a token as test comments see it: names and parts as they are written, in bytes, and texts in characters
pub data Word : Type 0 where
  Name : (bytes : List ℕ) → Word
  Qualified : (bytes : List ℕ) → Word
  Local : Word
  Text : (text : List ℕ) → Word
  Comma : Word
  Other : Word

abbrev pub of_keyword : Keyword → Word
of_keyword W.Local = Local
of_keyword _ = Other

abbrev pub of_sign : Punct → Word
of_sign P.Comma = Comma
of_sign _ = Other

abbrev pub word_by : TokenKind → List ℕ → Token → Word
word_by K.Name s t = Name (span s t)
word_by K.Qualified s t = Qualified (span s t)
word_by K.Keyword s t = of_keyword (keyword_of s t)
word_by K.Text s t = Text (text_of s t)
word_by K.Sign s t = of_sign (punct_of s t)
word_by _ s t = Other

abbrev pub word_in : List ℕ → Token → Word
word_in s t = word_by t.kind s t

-- a name at the front, and what is after it
abbrev pub name_first : List Word → Option (List ℕ × List Word)
name_first (Name n ∷ rest) = Some (n, rest)
name_first _ = None

-- a part at the front, and what is after it
abbrev pub part_first : List Word → Option (List ℕ × List Word)
part_first (Name n ∷ rest) = Some (n, rest)
part_first (Qualified n ∷ rest) = Some (n, rest)
part_first _ = None

-- `local` may stand before the name, and says nothing
abbrev pub past_local : List Word → List Word
past_local (Local ∷ rest) = rest
past_local words = words

-- one text or more, with commas between them
abbrev pub texts_of : List Word → Option (List (List ℕ))
texts_of (Text t ∷ []) = Some (t ∷ [])
texts_of (Text t ∷ Comma ∷ rest) = option_map (λ ts. t ∷ ts) (texts_of rest)
texts_of _ = None

-- what is asked, by its word
abbrev pub verb_of : List ℕ → Option Verb
verb_of word =
    if bytes_eq word (codes "accepts") then Some V.Accepts
    else (if bytes_eq word (codes "rejects") then Some V.Rejects
    else (if bytes_eq word (codes "includes") then Some V.Includes
    else (if bytes_eq word (codes "excludes") then Some V.Excludes
    else None)))

-- the part that is asked for, and what is after it; `accepts` and `rejects` ask for none
abbrev pub with_part : List ℕ × List Word → Option (List ℕ) × List Word
with_part (part, rest) = (Some part, rest)

abbrev pub part_for : Verb → List Word → Option (Option (List ℕ) × List Word)
part_for V.Accepts words = Some (None, words)
part_for V.Rejects words = Some (None, words)
part_for _ words = option_map with_part (part_first words)

-- the pattern, what is asked of it, with which part, and of which texts
pub record Reading : Type 0 where
  pub name : List ℕ
  pub verb : Verb
  pub part : Option (List ℕ)
  pub texts : List (List ℕ)

abbrev pub of_part : List ℕ → Verb → Option (List ℕ) × List Word → Option Reading
of_part name verb (part, rest) =
    option_map (λ texts. record { name = name; verb = verb; part = part; texts = texts }) (texts_of rest)

abbrev pub of_verb : List ℕ → List Word → Verb → Option Reading
of_verb name rest verb = option_and_then (of_part name verb) (part_for verb rest)

abbrev pub of_word : List ℕ → List ℕ × List Word → Option Reading
of_word name (word, rest) = option_and_then (of_verb name rest) (verb_of word)

abbrev pub of_name : List ℕ × List Word → Option Reading
of_name (name, rest) = option_and_then (of_word name) (name_first rest)

abbrev pub of_test : List ℕ × List Word → Option Reading
of_test (word, rest) =
    if bytes_eq word (codes "test") then option_and_then of_name (name_first (past_local rest)) else None

-- the word `test`, perhaps `local`, a name, what is asked of it, and texts
abbrev pub reading_of : List Word → Option Reading
reading_of words = option_and_then of_test (name_first words)

-- the reading of tokens of a text
abbrev pub reading_in : List ℕ → List Token → Option Reading
reading_in s ts = reading_of (map (word_in s) ts)

-- ---- the tests of a file

-- one test for each text
abbrev pub test_by : ℕ → Reading → List ℕ → Test
test_by n r t = record { line = n; name = chars r.name; verb = r.verb; part = option_map chars r.part; text = t }

abbrev pub tests_by : ℕ → Reading → List Test
tests_by n r = map (test_by n r) r.texts

-- the line with the number n, whose test comment this is, if it is one, has these tests
abbrev pub Says : ℕ → Option (List ℕ) → List Test → Type 0
Says n None tests = tests ≡ []
Says n (Some rest) tests =
    (ts : List Token) × (r : Reading) × (cut_of rest ≡ Ok ts) × (reading_in rest ts ≡ Some r) × (tests ≡ tests_by n r)

-- the test comment has no reading: it has a fault of its own, or its tokens say nothing
abbrev pub IsBad : Option (List ℕ) → Type 0
IsBad None = ⊥
IsBad (Some rest) =
    ((f : LexFault) × (cut_of rest ≡ Err f)) ⊎ ((ts : List Token) × (cut_of rest ≡ Ok ts) × (reading_in rest ts ≡ None))

-- the lines, the first of which has the number n, have these tests
abbrev pub AllSay : ℕ → List (List ℕ) → List Test → Type 0
AllSay n [] tests = tests ≡ []
AllSay n (line ∷ more) tests =
    (here others : List Test) × Says n (comment_of line) here × AllSay (n + 1) more others × (tests ≡ here ++ others)

-- the first of them that is bad has the number k
abbrev pub FirstBad : ℕ → List (List ℕ) → ℕ → Type 0
FirstBad n [] k = ⊥
FirstBad n (line ∷ more) k =
    (IsBad (comment_of line) × (k ≡ n))
    ⊎ ((here : List Test) × Says n (comment_of line) here × FirstBad (n + 1) more k)

-- the lines of a text
abbrev pub lines_of : List ℕ → List (List ℕ)
lines_of text = slice_split (λ b. b == 10) text

-- what a text has: these tests, or a first bad line
abbrev pub HasTests : List ℕ → List Test → Type 0
HasTests text tests = AllSay 1 (lines_of text) tests

abbrev pub HasBad : List ℕ → ℕ → Type 0
HasBad text k = FirstBad 1 (lines_of text) k

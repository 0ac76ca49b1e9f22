-- How contracts see words, and what adding tests answers.
use Rattle.std.specs.Prelude.{◌≡◌, ℕ, Bool, true, false, not, ◌&&◌, List, [], ◌∷◌, ◌++◌, map, option_map, chars}
use Rattle.std.specs.Prelude.{Option, Some, None}
use Rattle.rpl_unittest.specs.Comments as S
use Rattle.rpl_unittest.specs.Comments.{Reading, of_part, tests_by, Says, IsBad}
use Rattle.rpl_unittest.specs.declared.word.Word.{Word}
use Rattle.rpl_unittest.specs.declared.word.Word.TheVariants as W
use Rattle.rpl_unittest.specs.declared.question.Question.{Question}
use Rattle.rpl_unittest.specs.declared.test.Test.{Test}
use denote.Ref.{Bor}

abbrev pub word_seen : Word → S.Word
word_seen (W.Name n) = S.Name n.now
word_seen (W.Qualified n) = S.Qualified n.now
word_seen W.Local = S.Local
word_seen (W.Text t) = S.Text t
word_seen W.Comma = S.Comma
word_seen W.Other = S.Other

abbrev pub words_seen : List Word → List S.Word
words_seen = map word_seen

-- bytes, and the words after them
abbrev pub first_seen : Option (Bor (List ℕ) × Bor (List Word)) → Option (List ℕ × List S.Word)
first_seen None = None
first_seen (Some (n, rest)) = Some (n.now, words_seen rest.now)

abbrev pub bytes_of : Option (Bor (List ℕ)) → Option (List ℕ)
bytes_of None = None
bytes_of (Some b) = Some b.now

-- a part or none, and the words after it
abbrev pub part_seen : Option (Option (Bor (List ℕ)) × Bor (List Word)) → Option (Option (List ℕ) × List S.Word)
part_seen None = None
part_seen (Some (p, rest)) = Some (bytes_of p, words_seen rest.now)

-- the reading that a question has with its texts
abbrev pub reading_by : Option Question → Option Reading
reading_by None = None
reading_by (Some q) = of_part q.name.now q.verb (bytes_of q.part, words_seen q.texts.now)

-- the word may come next: a text, or a comma
abbrev pub fits : (wants_text : Bool) → S.Word → Bool
fits b (S.Name n) = false
fits b (S.Qualified n) = false
fits b S.Local = false
fits b (S.Text t) = b
fits b S.Comma = not b
fits b S.Other = false

-- the words are texts with commas between them, and a text stands last
abbrev pub are_texts : (wants_text : Bool) → List S.Word → Bool
are_texts b [] = not b
are_texts b (w ∷ ws) = fits b w && are_texts (not b) ws

-- a word's text, where it is one
abbrev pub text_in : S.Word → Option (List ℕ)
text_in (S.Name n) = None
text_in (S.Qualified n) = None
text_in S.Local = None
text_in (S.Text t) = Some t
text_in S.Comma = None
text_in S.Other = None

abbrev pub before : Option (List ℕ) → List (List ℕ) → List (List ℕ)
before None ts = ts
before (Some t) ts = t ∷ ts

-- the texts among words
abbrev pub texts_in : List S.Word → List (List ℕ)
texts_in [] = []
texts_in (w ∷ ws) = before (text_in w) (texts_in ws)

-- a question's test of one text
abbrev pub test_for : ℕ → Question → List ℕ → Test
test_for n q t = record {
  line = n;
  name = chars q.name.now;
  verb = q.verb;
  part = option_map chars (bytes_of q.part);
  text = t;
}

-- the tests of a reading
abbrev pub tests_said : ℕ → Option Reading → Option (List Test)
tests_said n r = option_map (tests_by n) r

-- the tests are added, where there are any
abbrev pub Adds : List Test → List Test → Option (List Test) → Bool → Type 0
Adds old new (Some more) done = (done ≡ true) × (new ≡ old ++ more)
Adds old new None done = done ≡ false

-- the comment's tests are added, or it is bad
abbrev pub Tells : ℕ → List ℕ → List Test → List Test → Bool → Type 0
Tells n rest old new true = (here : List Test) × Says n (Some rest) here × (new ≡ old ++ here)
Tells n rest old new false = IsBad (Some rest)

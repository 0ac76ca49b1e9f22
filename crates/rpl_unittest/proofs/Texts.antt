-- Texts with commas between them, and the tests of a question.
use Rattle.std.proofs.Common.{◌≡◌, ℕ, Bool, true, false, List, [], ◌∷◌, ◌++◌, map, Option, Some, None, refl, sym, ap}
use Rattle.std.proofs.Common.{subst, ◌∙◌}
use Rattle.std.specs.Prelude.{option_map, if◌then◌else◌}
use Rattle.rpl_unittest.specs.Comments.{Word, Name, Qualified, Local, Text, Comma, Other, Reading, texts_of}
use Rattle.rpl_unittest.specs.inside.Words.{words_seen, bytes_of, reading_by, are_texts, texts_in, test_for}
use Rattle.rpl_unittest.specs.inside.Words.{tests_said, Adds}
use Rattle.rpl_unittest.specs.declared.question.Question.{Question}
use Rattle.rpl_unittest.specs.declared.test.Test.{Test}

one_more : (t : List ℕ) (b : Bool) (o : Option (List (List ℕ))) (ts : List (List ℕ)) →
    o ≡ (if b then Some ts else None) → option_map (λ x. t ∷ x) o ≡ (if b then Some (t ∷ ts) else None)
one_more t true o ts e = ap (option_map (λ x. t ∷ x)) e
one_more t false o ts e = ap (option_map (λ x. t ∷ x)) e

-- the texts are read just where they have commas between them
pub texts_as : (ws : List Word) → texts_of ws ≡ (if are_texts true ws then Some (texts_in ws) else None)
texts_as [] = refl
texts_as (Name n ∷ ws) = refl
texts_as (Qualified n ∷ ws) = refl
texts_as (Local ∷ ws) = refl
texts_as (Comma ∷ ws) = refl
texts_as (Other ∷ ws) = refl
texts_as (Text t ∷ []) = refl
texts_as (Text t ∷ Comma ∷ ws) = one_more t (are_texts true ws) (texts_of ws) (texts_in ws) (texts_as ws)
texts_as (Text t ∷ Name n ∷ ws) = refl
texts_as (Text t ∷ Qualified n ∷ ws) = refl
texts_as (Text t ∷ Local ∷ ws) = refl
texts_as (Text t ∷ Text u ∷ ws) = refl
texts_as (Text t ∷ Other ∷ ws) = refl

-- a question whose words have these texts, or none
abbrev with_texts : Question → List (List ℕ) → Reading
with_texts q texts = record { name = q.name.now; verb = q.verb; part = bytes_of q.part; texts = texts }

reading_with : (q : Question) (ts : Option (List (List ℕ))) → texts_of (words_seen q.texts.now) ≡ ts →
    reading_by (Some q) ≡ option_map (with_texts q) ts
reading_with q ts e = ap (option_map (with_texts q)) e

texts_by : (ws : List Word) (b : Bool) → are_texts true ws ≡ b → texts_of ws ≡ (if b then Some (texts_in ws) else None)
texts_by ws b e = texts_as ws ∙ ap (λ x. if x then Some (texts_in ws) else None) e

-- words without a question say no test
pub no_question : (n : ℕ) (old new : List Test) (o : Option Reading) → None ≡ o → Adds old new (tests_said n o) false
no_question n old new o e = subst (λ x. Adds old new (tests_said n x) false) e refl

-- nor does a question without texts
pub no_texts : (n : ℕ) (old new : List Test) (q : Question) (o : Option Reading) (b : Bool) →
    reading_by (Some q) ≡ o → b ≡ are_texts true (words_seen q.texts.now) → b ≡ false →
    Adds old new (tests_said n o) false
no_texts n old new q o b e f h =
    let none = texts_by (words_seen q.texts.now) false (sym f ∙ h) in
    no_question n old new o (sym (reading_with q None none) ∙ e)

-- one with texts says a test of each
pub some_texts : (n : ℕ) (old new : List Test) (q : Question) (o : Option Reading) (b : Bool) →
    reading_by (Some q) ≡ o → b ≡ are_texts true (words_seen q.texts.now) → b ≡ true →
    new ≡ old ++ map (test_for n q) (texts_in (words_seen q.texts.now)) → Adds old new (tests_said n o) true
some_texts n old new q o b e f h added =
    let texts = texts_in (words_seen q.texts.now) in
    let some = texts_by (words_seen q.texts.now) true (sym f ∙ h) in
    subst (λ x. Adds old new (tests_said n x) true) (sym (reading_with q (Some texts) some) ∙ e) (refl, added)

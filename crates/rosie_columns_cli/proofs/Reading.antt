-- The words, one after the other.
use Rattle.std.proofs.Common.{◌≡◌, ℕ, suc, ◌+◌, ◌-◌, ◌<◌, ◌≤◌, List, [], ◌∷◌, length, get_or, drop, map, refl, sym, ap}
use Rattle.std.proofs.Common.{◌∙◌, arith}
use Rattle.std.specs.Prelude.{◌≢◌, IfOk, IfErr, Result, Ok, Err, String, string_bytes}
use Rattle.rosie_columns_cli.specs.declared.fault.WordFault.TheVariants.{NoMemory}
use Rattle.std.proofs.Math.Seq.{drop-cons}
use Rattle.std.proofs.lemmas.List.{drop_all}
use Rattle.rosie_columns_cli.specs.Words.{Word, all_taken, finish, finished_at, go_on, last_of, reading, start, taken}
use Rattle.rosie_columns_cli.specs.Words.{words_of}
use Rattle.rosie_columns_cli.specs.declared.fault.WordFault.{WordFault}
use Rattle.rosie_columns_cli.specs.declared.words.Asked.{Asked}
use Rattle.rosie_columns_cli.specs.declared.words.Reader.{Reader}

all_step : (r : Reader) (w : Word) (ws : List Word) → all_taken r (w ∷ ws) ≡ go_on (λ r'. all_taken r' ws) (taken r w)
unfolding all_taken
all_step r w ws = refl

all_end : (r : Reader) → all_taken r [] ≡ Ok r
unfolding all_taken
all_end r = refl

-- the next word
words_next : {Z : Type 0} (words : List (String Z)) (i : ℕ) (d : String Z) (w : Word) → i < length words
    → w ≡ string_bytes (get_or words i d) → words_of (drop i words) ≡ w ∷ words_of (drop (i + 1) words)
words_next words i d w lt is =
    let one : i + 1 ≡ suc i = omega arith in
    rw one (ap (map string_bytes) (drop-cons words i d lt)
    ∙ ap (λ x. x ∷ map string_bytes (drop (suc i) words)) (sym is))

pub word_on : {Z : Type 0} (words : List (String Z)) (i : ℕ) (d : String Z) (w : Word) (r r' : Reader) (whole :
    Result Reader WordFault) → i < length words → w ≡ string_bytes (get_or words i d) → taken r w ≡ Ok r'
    → all_taken r (words_of (drop i words)) ≡ whole → all_taken r' (words_of (drop (i + 1) words)) ≡ whole
word_on words i d w r r' whole lt is took h =
    let rest = words_of (drop (i + 1) words) in
    sym (ap (all_taken r) (words_next words i d w lt is) ∙ all_step r w rest ∙ ap (go_on (λ q. all_taken q rest)) took)
    ∙ h

pub word_fault : {Z : Type 0} (words : List (String Z)) (i : ℕ) (d : String Z) (w : Word) (r : Reader) (e : WordFault)
    → i < length words → w ≡ string_bytes (get_or words i d) → taken r w ≡ Err e
    → all_taken r (words_of (drop i words)) ≡ all_taken start (words_of words) → reading (words_of words) ≡ Err e
unfolding reading
word_fault words i d w r e lt is took h =
    let rest = words_of (drop (i + 1) words) in
    ap (finish (words_of words)) (sym h ∙ ap (all_taken r) (words_next words i d w lt is) ∙ all_step r w rest
    ∙ ap (go_on (λ q. all_taken q rest)) took)

-- no word is left
pub words_end : {Z : Type 0} (words : List (String Z)) (i : ℕ) (r : Reader) (last : Word) (a : Result Asked WordFault)
    → length words ≤ i → all_taken r (words_of (drop i words)) ≡ all_taken start (words_of words)
    → last ≡ last_of [] (words_of words) → finished_at r.front last r.asked ≡ a → reading (words_of words) ≡ a
unfolding reading
words_end words i r last a le h is end =
    ap (finish (words_of words)) (sym h ∙ ap (λ ws. all_taken r (words_of ws)) (drop_all i words le) ∙ all_end r)
    ∙ ap (λ w. finished_at r.front w r.asked) (sym is) ∙ end

pub words_ok : {Z : Type 0} (words : List (String Z)) (i : ℕ) (r : Reader) (last : Word) (result :
    Result Asked WordFault) → length words ≤ i
    → all_taken r (words_of (drop i words)) ≡ all_taken start (words_of words)
    → last ≡ last_of [] (words_of words) → IfOk result (λ a. finished_at r.front last r.asked ≡ Ok a)
    → IfOk result (λ a. reading (words_of words) ≡ Ok a)
words_ok words i r last (Ok a) le h is end = words_end words i r last (Ok a) le h is end
words_ok words i r last (Err e) le h is end = tt

pub words_err : {Z : Type 0} (words : List (String Z)) (i : ℕ) (r : Reader) (last : Word) (result :
    Result Asked WordFault) → length words ≤ i
    → all_taken r (words_of (drop i words)) ≡ all_taken start (words_of words)
    → last ≡ last_of [] (words_of words) → IfErr result (λ e. e ≢ NoMemory → finished_at r.front last r.asked ≡ Err e)
    → IfErr result (λ e. e ≢ NoMemory → reading (words_of words) ≡ Err e)
words_err words i r last (Ok a) le h is end = tt
words_err words i r last (Err e) le h is end = λ known. words_end words i r last (Err e) le h is (end known)

-- the last word
last_from : {Z : Type 0} (first : Word) (words : List (String Z)) (d : String Z) → 0 < length words
    → last_of first (words_of words) ≡ string_bytes (get_or words (length words - 1) d)
last_from first [] d h = absurd (omega arith)
last_from first (x ∷ []) d h = refl
last_from first (x ∷ y ∷ more) d h =
    let e : suc (length (y ∷ more) - 1) ≡ length (x ∷ y ∷ more) - 1 = omega arith in
    last_from (string_bytes x) (y ∷ more) d (omega arith) ∙ ap (λ n. string_bytes (get_or (x ∷ y ∷ more) n d)) e

pub last_is : {Z : Type 0} (words : List (String Z)) (w d : String Z) → 0 < length words
    → w ≡ get_or words (length words - 1) d → last_of [] (words_of words) ≡ string_bytes w
last_is words w d some is = last_from [] words d some ∙ ap string_bytes (sym is)

pub last_none : {Z : Type 0} (words : List (String Z)) → length words ≤ 0 → last_of [] (words_of words) ≡ []
last_none [] h = refl
last_none (x ∷ words) h = absurd (omega arith)

-- How the counts of what stands at a place go on at the next.
use Rattle.std.proofs.Common.{◌≡◌, ℕ, zero, suc, true, false, Bool, ◌+◌, ◌-◌, ◌<◌, ◌≤◌, List, [], ◌∷◌, ◌++◌, length}
use Rattle.std.proofs.Common.{get_or, take, drop, refl, sym, ap, ◌∙◌, arith}
use Rattle.std.specs.Prelude.{◌&&◌, nat_eq}
use Rattle.std.proofs.Math.Seq.{drop-cons}
use Rattle.std.proofs.lemmas.List.{drop_all, drop-drop, take-append-drop, length-drop, length-take-le, take_all}
use Rattle.std.proofs.lemmas.Bool.{false≢true}
use Rattle.std.proofs.lemmas.Bool.Decides.{eqb_tells}
use Rattle.std.proofs.Common.{inl, inr}
use Rattle.rpl_text.specs.Ascii.{is_digit}
use Rattle.rpl_print.specs.Quoted.{is_plain, is_plain_byte}
use Rattle.rpl_columns.specs.Spelling.{string_count, digit_count, escape_count, by_escape}

pub digit_more : (b : ℕ) (bs : List ℕ) → is_digit b ≡ true → digit_count (b ∷ bs) ≡ suc (digit_count bs)
unfolding digit_count
digit_more b bs h = rw h refl

pub digit_other : (b : ℕ) (bs : List ℕ) → is_digit b ≡ false → digit_count (b ∷ bs) ≡ 0
unfolding digit_count
digit_other b bs h = rw h refl

pub digit_nil : digit_count [] ≡ 0
unfolding digit_count
digit_nil = refl

pub digit_next : (line : List ℕ) (i : ℕ) → i < length line → is_digit (get_or line i 0) ≡ true
    → digit_count (drop i line) ≡ digit_count (drop (i + 1) line) + 1
digit_next line i lt h =
    let one : i + 1 ≡ suc i = omega arith in
    rw one (ap digit_count (drop-cons line i 0 lt) ∙ digit_more (get_or line i 0) (drop (suc i) line) h ∙ omega arith)

pub digit_stop : (line : List ℕ) (i : ℕ) → i < length line → is_digit (get_or line i 0) ≡ false
    → digit_count (drop i line) ≡ 0
digit_stop line i lt h = ap digit_count (drop-cons line i 0 lt) ∙ digit_other (get_or line i 0) (drop (suc i) line) h

pub digit_end : (line : List ℕ) (i : ℕ) → length line ≤ i → digit_count (drop i line) ≡ 0
digit_end line i le = ap digit_count (drop_all i line le) ∙ digit_nil

pub string_nil : (n : ℕ) → string_count n [] ≡ 0
unfolding string_count
string_nil zero = refl
string_nil (suc n) = refl

pub string_more : (b : ℕ) (bs : List ℕ) → is_plain_byte b ≡ true → string_count 0 (b ∷ bs) ≡ suc (string_count 0 bs)
unfolding string_count
string_more b bs h = rw h refl

pub string_quote : (b : ℕ) (bs : List ℕ) → is_plain_byte b ≡ false → nat_eq b 92 ≡ false → string_count 0 (b ∷ bs) ≡ 0
unfolding string_count
string_quote b bs h e = rw (h, e) refl

pub string_escape : (b : ℕ) (bs : List ℕ) → is_plain_byte b ≡ false → nat_eq b 92 ≡ true
    → string_count 0 (b ∷ bs) ≡ by_escape (escape_count bs) (string_count (escape_count bs) bs)
unfolding string_count
string_escape b bs h e = rw (h, e) refl

pub string_next : (line : List ℕ) (i : ℕ) → i < length line → is_plain_byte (get_or line i 0) ≡ true
    → string_count 0 (drop i line) ≡ string_count 0 (drop (i + 1) line) + 1
string_next line i lt h =
    let one : i + 1 ≡ suc i = omega arith in
    rw one (ap (string_count 0) (drop-cons line i 0 lt) ∙ string_more (get_or line i 0) (drop (suc i) line) h
    ∙ omega arith)

pub string_stop : (line : List ℕ) (i : ℕ) → i < length line → is_plain_byte (get_or line i 0) ≡ false
    → nat_eq (get_or line i 0) 92 ≡ false → string_count 0 (drop i line) ≡ 0
string_stop line i lt h e = ap (string_count 0) (drop-cons line i 0 lt)
    ∙ string_quote (get_or line i 0) (drop (suc i) line) h e

pub string_end : (line : List ℕ) (i : ℕ) → length line ≤ i → string_count 0 (drop i line) ≡ 0
string_end line i le = ap (string_count 0) (drop_all i line le) ∙ string_nil 0

pub by_some : (n more : ℕ) → 0 < n → by_escape n more ≡ 1 + more
by_some zero more h = absurd (omega arith)
by_some (suc n) more h = omega arith

-- bytes of an escape, as many as are there
pub skipped : (n : ℕ) (bs : List ℕ) → n ≤ length bs → string_count n bs ≡ n + string_count 0 (drop n bs)
unfolding string_count
skipped zero bs h = omega arith
skipped (suc n) [] h = absurd (omega arith)
skipped (suc n) (b ∷ bs) h =
    let more = skipped n bs (omega arith) in
    ap suc more ∙ omega arith

both : (a b : Bool) → (a && b) ≡ true → (a ≡ true) × (b ≡ true)
both true b h = (refl, h)
both false b h = absurd (false≢true h)

plain_front : (front back : List ℕ) → is_plain front ≡ true
    → string_count 0 (front ++ back) ≡ length front + string_count 0 back
plain_front [] back h = omega arith
plain_front (b ∷ bs) back h =
    let all = both (is_plain_byte b) (is_plain bs) h in
    string_more b (bs ++ back) all.0 ∙ ap suc (plain_front bs back all.1) ∙ omega arith

-- several bytes that stand for themselves
pub plain_chunk : (line : List ℕ) (i n : ℕ) → i + n ≤ length line → is_plain (take n (drop i line)) ≡ true
    → string_count 0 (drop i line) ≡ n + string_count 0 (drop (i + n) line)
plain_chunk line i n le h =
    let rest = drop i line in
    let long : length (take n rest) ≡ n =
    length-take-le n rest (omega (arith, length-drop i line)) in
    let same : drop n rest ≡ drop (i + n) line = drop-drop n i line ∙ ap (λ k. drop k line) (omega arith) in
    ap (string_count 0) (sym (take-append-drop n rest))
    ∙ plain_front (take n rest) (drop n rest) h
    ∙ ap (λ k. k + string_count 0 (drop n rest)) long
    ∙ ap (λ r. n + string_count 0 r) same

-- a backslash with its escape
pub string_escaped : (line : List ℕ) (i n : ℕ) → i < length line → is_plain_byte (get_or line i 0) ≡ false
    → nat_eq (get_or line i 0) 92 ≡ true → n ≡ escape_count (drop (i + 1) line) → 0 < n → n ≤ length (drop (i + 1) line)
    → string_count 0 (drop i line) ≡ 1 + (n + string_count 0 (drop (i + 1 + n) line))
string_escaped line i n lt h e same some le =
    let one : i + 1 ≡ suc i = omega arith in
    let rest = drop (i + 1) line in
    let first : drop i line ≡ get_or line i 0 ∷ rest = rw one (drop-cons line i 0 lt) in
    let count : by_escape (escape_count rest) (string_count (escape_count rest) rest) ≡ 1 + string_count n rest =
    rw (← same) (by_some n (string_count n rest) some) in
    let behind : drop n rest ≡ drop (i + 1 + n) line = drop-drop n (i + 1) line ∙ ap (λ k. drop k line) (omega arith) in
    ap (string_count 0) first ∙ string_escape (get_or line i 0) rest h e ∙ count
    ∙ ap (λ k. 1 + k) (skipped n rest le ∙ ap (λ r. n + string_count 0 r) behind)

-- a backslash with no escape
pub string_bad : (line : List ℕ) (i : ℕ) → i < length line → is_plain_byte (get_or line i 0) ≡ false
    → nat_eq (get_or line i 0) 92 ≡ true → escape_count (drop (i + 1) line) ≡ 0 → string_count 0 (drop i line) ≡ 0
string_bad line i lt h e none =
    let one : i + 1 ≡ suc i = omega arith in
    let rest = drop (i + 1) line in
    let first : drop i line ≡ get_or line i 0 ∷ rest = rw one (drop-cons line i 0 lt) in
    ap (string_count 0) first ∙ string_escape (get_or line i 0) rest h e
    ∙ ap (λ n. by_escape n (string_count n rest)) none

-- the bytes from a place on, as a range up to the end
pub to_end : (line : List ℕ) (i : ℕ) → take (length line - i) (drop i line) ≡ drop i line
to_end line i = take_all (length line - i) (drop i line) (omega (arith, length-drop i line))

pub not_same : (a b : ℕ) → (a ≡ b → ⊥) → nat_eq a b ≡ false
not_same a b h = elim (eqb_tells a b) [ inl p ↦ absurd (h p.1) | inr p ↦ p.0 ]

-- The text that is spelled so, byte by byte, and what plain texts are in each format.
use Rattle.std.proofs.Common.{◌≡◌, ℕ, zero, suc, Bool, true, false, ◌&&◌, ◌<◌, ◌≤◌, List, [], ◌∷◌, ◌++◌, length, drop}
use Rattle.std.proofs.Common.{Option, None, Some, refl, sym, ap, ap₂, subst, ◌∙◌, arith}
use Rattle.std.specs.Prelude.{◌||◌, if◌then◌else◌, nat_eq, nat_le, not, option_map}
use Rattle.std.proofs.lemmas.Bool.{not-true, leb-true, false≢true}
use Rattle.std.proofs.lemmas.List.{length-drop}
use Rattle.std.proofs.Common.{append_assoc, append-nil, flat_map}
use Rattle.rpl_print.specs.Quoted.{is_plain, is_plain_byte}
use Rattle.rpl_columns.specs.Spelling.{control_in}
use Rattle.rpl_columns.specs.Cells.{first_in, first_escaped, go_by, text_by, text_of, unescaped, wants_quotes}
use Rattle.rpl_columns.specs.Cells.{is_to_be_quoted, doubled, doubled_byte, csv_cell, tsv_byte, tsv_cell, has_no_comma}
use Rattle.rpl_columns.proofs.Counting.{not_same}

abbrev Fewer : Option (ℕ × List ℕ) → ℕ → Type 0
Fewer None n = Unit {0}
Fewer (Some r) n = length r.1 < n

control_fewer : (o : Option ℕ) (rest : List ℕ)
    → Fewer (option_map (λ byte. (byte, drop 4 rest)) o) (suc (suc (length rest)))
control_fewer None rest = tt
control_fewer (Some byte) rest = omega (arith, length-drop 4 rest)

escaped_fewer : (bs : List ℕ) → Fewer (first_escaped bs) (suc (length bs))
escaped_fewer [] = tt
escaped_fewer (letter ∷ rest) =
    elim (nat_eq letter 117) as (λ t. Fewer (if t then option_map (λ byte. (byte, drop 4 rest)) (control_in rest)
    else Some (unescaped letter, rest)) (suc (suc (length rest)))) [
      | true ↦ control_fewer (control_in rest) rest
      | false ↦ omega arith
    ]

first_fewer : (s : List ℕ) → Fewer (first_in s) (length s)
first_fewer [] = tt
first_fewer (b ∷ bs) =
    elim (nat_eq b 92) as (λ t. Fewer (if t then first_escaped bs else Some (b, bs)) (suc (length bs))) [
      | true ↦ escaped_fewer bs
      | false ↦ omega arith
    ]

-- with enough turns it is the same text
fuel : (n m : ℕ) (s : List ℕ) → length s ≤ n → length s ≤ m → text_by n s ≡ text_by m s
unfolding text_by
fuel zero zero s h g = refl
fuel zero (suc m) [] h g = refl
fuel zero (suc m) (b ∷ bs) h g = absurd (omega arith)
fuel (suc n) zero [] h g = refl
fuel (suc n) zero (b ∷ bs) h g = absurd (omega arith)
fuel (suc n) (suc m) s h g =
    (elim (first_in s) as (λ o. Fewer o (length s) → go_by (text_by n) o ≡ go_by (text_by m) o) [
      | None ↦ λ f. refl
      | Some r ↦ λ f. ap (λ t. r.0 ∷ t) (fuel n m r.1 (omega arith) (omega arith))
    ]) (first_fewer s)

pub text_step : (s : List ℕ) (b : ℕ) (rest : List ℕ) → Some (b, rest) ≡ first_in s → text_of s ≡ b ∷ text_of rest
unfolding text_of text_by
text_step [] b rest e = absurd (let none : Some (b, rest) ≡ None = e in cc)
text_step (x ∷ xs) b rest e =
    let f : Fewer (Some (b, rest)) (suc (length xs)) =
    subst (λ o. Fewer o (suc (length xs))) (sym e) (first_fewer (x ∷ xs)) in
    ap (go_by (text_by (length xs))) (sym e)
    ∙ ap (λ t. b ∷ t) (fuel (length xs) (length rest) rest (omega arith) (omega arith))

pub text_none : (s : List ℕ) → None ≡ first_in s → text_of s ≡ []
unfolding text_of text_by
text_none [] e = refl
text_none (x ∷ xs) e = ap (go_by (text_by (length xs))) (sym e)

both : (a b : Bool) → (a && b) ≡ true → (a ≡ true) × (b ≡ true)
both true b h = (refl, h)
both false b h = absurd (false≢true h)

pub neither : (a b : Bool) → (a || b) ≡ false → (a ≡ false) × (b ≡ false)
neither true b h = absurd (false≢true (sym h))
neither false b h = (refl, h)

-- what a plain byte is not
pub record IsNo (b : ℕ) : Type 0 where
  pub low : 32 ≤ b
  pub quote : nat_eq b 34 ≡ false
  pub slash : nat_eq b 92 ≡ false

pub plain_is : (b : ℕ) → is_plain_byte b ≡ true → IsNo b
plain_is b h =
    let tests = both (nat_le 0x20 b) _ h in
    let signs = both (not (nat_eq b 34)) _ tests.1 in
    record { low = leb-true 0x20 b tests.0; quote = not-true _ signs.0; slash = not-true _ signs.1 }

pub plain_text : (s : List ℕ) → is_plain s ≡ true → text_of s ≡ s
plain_text [] h = text_none [] refl
plain_text (b ∷ bs) h =
    let all = both (is_plain_byte b) (is_plain bs) h in
    let no = plain_is b all.0 in
    let first : first_in (b ∷ bs) ≡ Some (b, bs) = ap (λ t. if t then first_escaped bs else Some (b, bs)) no.slash in
    text_step (b ∷ bs) b bs (sym first) ∙ ap (λ t. b ∷ t) (plain_text bs all.1)

plain_doubled : (s : List ℕ) → is_plain s ≡ true → doubled s ≡ s
plain_doubled [] h = refl
plain_doubled (b ∷ bs) h =
    let all = both (is_plain_byte b) (is_plain bs) h in
    let no = plain_is b all.0 in
    let one : doubled_byte b ≡ b ∷ [] = ap (λ t. if t then 34 ∷ 34 ∷ [] else b ∷ []) no.quote in
    ap₂ ◌++◌ one (plain_doubled bs all.1)

pub doubled_itself : (s : List ℕ) → is_plain s ≡ true → doubled (text_of s) ≡ s
doubled_itself s h = ap doubled (plain_text s h) ∙ plain_doubled s h

plain_tsv_byte : (b : ℕ) → is_plain_byte b ≡ true → tsv_byte b ≡ b ∷ []
plain_tsv_byte b h =
    let no = plain_is b h in
    let low = no.low in
    let tab = not_same b 9 (λ e. omega (arith, e)) in
    let feed = not_same b 10 (λ e. omega (arith, e)) in
    let back = not_same b 13 (λ e. omega (arith, e)) in
    rw (tab, feed, back, no.slash) refl

plain_tsv : (s : List ℕ) → is_plain s ≡ true → tsv_cell s ≡ s
plain_tsv [] h = refl
plain_tsv (b ∷ bs) h =
    let all = both (is_plain_byte b) (is_plain bs) h in
    ap₂ ◌++◌ (plain_tsv_byte b all.0) (plain_tsv bs all.1)

pub tsv_itself : (s : List ℕ) → is_plain s ≡ true → tsv_cell (text_of s) ≡ s
tsv_itself s h = ap tsv_cell (plain_text s h) ∙ plain_tsv s h

plain_wants : (b : ℕ) → is_plain_byte b ≡ true → not (nat_eq b 44) ≡ true → wants_quotes b ≡ false
plain_wants b h comma =
    let no = plain_is b h in
    let low = no.low in
    let feed = not_same b 10 (λ e. omega (arith, e)) in
    let back = not_same b 13 (λ e. omega (arith, e)) in
    rw (not-true _ comma, no.quote, feed, back) refl

plain_unquoted : (s : List ℕ) → is_plain s ≡ true → has_no_comma s ≡ true → is_to_be_quoted s ≡ false
plain_unquoted [] h comma = refl
plain_unquoted (b ∷ bs) h comma =
    let all = both (is_plain_byte b) (is_plain bs) h in
    let commas = both (not (nat_eq b 44)) (has_no_comma bs) comma in
    ap (λ t. t || is_to_be_quoted bs) (plain_wants b all.0 commas.0) ∙ plain_unquoted bs all.1 commas.1

pub csv_bare : (text : List ℕ) → is_to_be_quoted text ≡ false → csv_cell text ≡ text
csv_bare text h = ap (λ t. if t then 34 ∷ (doubled text ++ 34 ∷ []) else text) h

pub csv_itself : (s : List ℕ) → is_plain s ≡ true → has_no_comma s ≡ true → csv_cell (text_of s) ≡ s
csv_itself s h comma = ap csv_cell (plain_text s h) ∙ csv_bare s (plain_unquoted s h comma)

-- in a text that isn't quoted there is no quote
pub no_doubled : (text : List ℕ) → is_to_be_quoted text ≡ false → doubled text ≡ text
no_doubled [] h = refl
no_doubled (b ∷ bs) h =
    let parts = neither (wants_quotes b) (is_to_be_quoted bs) h in
    let more = neither (nat_eq b 44) _ parts.0 in
    let quote = neither (nat_eq b 34) _ more.1 in
    let one : doubled_byte b ≡ b ∷ [] = ap (λ t. if t then 34 ∷ 34 ∷ [] else b ∷ []) quote.0 in
    ap₂ ◌++◌ one (no_doubled bs parts.1)

-- one byte more is written
pub written_on : (f : ℕ → List ℕ) (old out out' s : List ℕ) (b : ℕ) (rest whole : List ℕ) → Some (b, rest) ≡ first_in s
    → out' ≡ out ++ f b → out ++ flat_map f (text_of s) ≡ old ++ whole → out' ++ flat_map f (text_of rest) ≡ old
    ++ whole
written_on f old out out' s b rest whole e more h =
    ap (λ o. o ++ flat_map f (text_of rest)) more
    ∙ append_assoc out (f b) (flat_map f (text_of rest))
    ∙ sym (ap (λ t. out ++ flat_map f t) (text_step s b rest e))
    ∙ h

-- nothing is left to be written
pub written_all : (f : ℕ → List ℕ) (old out s whole : List ℕ) → None ≡ first_in s
    → out ++ flat_map f (text_of s) ≡ old ++ whole → out ≡ old ++ whole
written_all f old out s whole e h =
    sym (append-nil out) ∙ sym (ap (λ t. out ++ flat_map f t) (text_none s e)) ∙ h

-- A text with no byte that needs an escape stands for itself between the quotes.
use Rattle.std.proofs.Common.{◌≡◌, ℕ, zero, suc, take, ◌++◌, ◌∷◌, List, [], Bool, true, false, ◌&&◌, length, drop, refl}
use Rattle.std.proofs.Common.{sym, ap, ap₂, ◌∙◌}
use Rattle.std.specs.Prelude.{nat_eq, nat_le, not}
use Rattle.std.proofs.lemmas.Bool.{not-true, eqb-false, leb-true, false≢true}
use Rattle.std.proofs.lemmas.List.{take-append-drop}
use Rattle.std.proofs.Math.Bool.{and-true, and_assoc}
use Rattle.json.specs.Print.{escape}
use Rattle.json.proofs.Printed.Strings.{escape_byte_plain}
use Rattle.rpl_print.specs.Quoted.{quoted, is_plain, is_plain_byte}

pub both : (a b : Bool) → (a && b) ≡ true → (a ≡ true) × (b ≡ true)
both true b h = (refl, h)
both false b h = absurd (false≢true h)

-- a text that needs no escape is its own escaped form
pub escape_plain : (text : List ℕ) → is_plain text ≡ true → escape text ≡ text
escape_plain [] h = refl
escape_plain (b ∷ bs) h =
    let all = both (is_plain_byte b) _ h in
    let tests = both (nat_le 0x20 b) _ all.0 in
    let signs = both (not (nat_eq b 34)) _ tests.1 in
    let rest = escape_plain bs all.1 in
    λ i. escape_byte_plain b (eqb-false b 34 (not-true _ signs.0)) (eqb-false b 92 (not-true _ signs.1))
    (leb-true 0x20 b tests.0) i ++ rest i

pub quoted_plain : (text : List ℕ) → is_plain text ≡ true → quoted text ≡ 34 ∷ (text ++ 34 ∷ [])
quoted_plain text h = ap (λ x. 34 ∷ (x ++ 34 ∷ [])) (escape_plain text h)

pub plain_append : (a b : List ℕ) → is_plain (a ++ b) ≡ (is_plain a && is_plain b)
plain_append [] b = refl
plain_append (x ∷ xs) b = ap (λ t. is_plain_byte x && t) (plain_append xs b)
    ∙ sym (and_assoc (is_plain_byte x) (is_plain xs) (is_plain b))

-- a text that needs no escape needs none when only some bytes at its front are taken
pub plain_take : (n : ℕ) (text : List ℕ) → is_plain text ≡ true → is_plain (take n text) ≡ true
plain_take zero text h = refl
plain_take (suc n) [] h = refl
plain_take (suc n) (b ∷ bs) h =
    let all = both (is_plain_byte b) (is_plain bs) h in
    rw all.0 (plain_take n bs all.1)

-- a text that needs no escape needs none when some bytes are dropped from its front
pub plain_drop : (n : ℕ) (text : List ℕ) → is_plain text ≡ true → is_plain (drop n text) ≡ true
plain_drop zero text h = h
plain_drop (suc n) [] h = refl
plain_drop (suc n) (b ∷ bs) h = plain_drop n bs (both (is_plain_byte b) (is_plain bs) h).1

-- plain bytes after a text change nothing
pub padded : (text more : List ℕ) → is_plain more ≡ true → is_plain (text ++ more) ≡ is_plain text
padded text more h = plain_append text more ∙ ap (λ b. is_plain text && b) h ∙ and-true (is_plain text)

-- one chunk more
pub next_chunk : (found : Bool) (rest chunk behind text : List ℕ) → rest ≡ chunk ++ behind
    → (found && is_plain rest) ≡ is_plain text → ((found && is_plain chunk) && is_plain behind) ≡ is_plain text
next_chunk found rest chunk behind text whole h =
    and_assoc found (is_plain chunk) (is_plain behind) ∙ ap (λ b. found && b) (sym (plain_append chunk behind)
    ∙ ap is_plain (sym whole)) ∙ h

-- a text with spaces after it
pub short_chunk : (text filled spaces : List ℕ) → filled ≡ text → is_plain spaces ≡ true
    → is_plain (filled ++ drop (length text) spaces) ≡ is_plain text
short_chunk text filled spaces same h = ap (λ xs. is_plain (xs ++ drop (length text) spaces)) same
    ∙ padded text (drop (length text) spaces) (plain_drop (length text) spaces h)

pub split : (rest chunk behind : List ℕ) (n : ℕ) → chunk ≡ take n rest → behind ≡ drop n rest → rest ≡ chunk ++ behind
split rest chunk behind n first more = sym (take-append-drop n rest) ∙ ap₂ ◌++◌ (sym first) (sym more)

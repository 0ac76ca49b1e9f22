-- One text.
use Rattle.std.proofs.Common.{◌≡◌, ℕ, ◌≤◌, ◌<◌, ◌^◌, List, length, take, drop, Option, Some, None, sym, ap, ◌∙◌, subst}
use Rattle.std.proofs.lemmas.Bool.{le-ltb, false_from_ne_true}
use Rattle.std.proofs.lemmas.Str.{IsUtf8-from_is_utf8, is_utf8-from_IsUtf8, chars-encodes, encodes-chars}
use Rattle.std.specs.Prelude.{nat_lt, if◌then◌else◌, OnOk, Result, Ok, Err}
use Rattle.std.specs.Str.{all_scalars}
use Rattle.rpl_codefile.specs.Spelling.{FitsText}
use Rattle.std.specs.Int.{w64}
use Rattle.std.specs.Str.{IsUtf8, is_utf8, chars}
use Rattle.rpl_text.specs.Options.{◌>>=◌}
use Rattle.rpl_codefile.specs.inside.Reading.{number_at, text_at}

-- the text after its length
abbrev inside : ℕ × List ℕ → Option (List ℕ × List ℕ)
inside n = if nat_lt (length n.1) n.0 then None
    else (if is_utf8 (take n.0 n.1) then Some (chars (take n.0 n.1), drop n.0 n.1) else None)

pub text_is : (bytes : List ℕ) (n : ℕ) (rest front back : List ℕ) → number_at w64 bytes ≡ Some (n, rest)
    → n ≤ length rest → front ≡ take n rest → back ≡ drop n rest → IsUtf8 front
    → text_at bytes ≡ Some (chars front, back)
unfolding text_at
text_is bytes n rest front back e le f b u =
    ap (λ o. o >>= inside) e
    ∙ ap (λ t. if t then None else (if is_utf8 (take n rest) then Some (chars (take n rest), drop n rest) else None))
    (le-ltb (length rest) n le)
    ∙ ap (λ t. if t then Some (chars (take n rest), drop n rest)
    else None) (is_utf8-from_IsUtf8 (take n rest) (subst IsUtf8 f u)) ∙ ap (λ x. Some (chars x, drop n rest)) (sym f)
    ∙ ap (λ x. Some (chars front, x)) (sym b)

pub text_not : (bytes : List ℕ) (n : ℕ) (rest front : List ℕ) → number_at w64 bytes ≡ Some (n, rest) → n ≤ length rest
    → front ≡ take n rest → (IsUtf8 front → ⊥) → text_at bytes ≡ None
unfolding text_at
text_not bytes n rest front e le f bad =
    ap (λ o. o >>= inside) e
    ∙ ap (λ t. if t then None else (if is_utf8 (take n rest) then Some (chars (take n rest), drop n rest) else None))
    (le-ltb (length rest) n le)
    ∙ ap (λ t. if t then Some (chars (take n rest), drop n rest)
    else None) (false_from_ne_true (is_utf8 (take n rest))
    (λ y. bad (subst IsUtf8 (sym f) (IsUtf8-from_is_utf8 (take n rest) y))))

-- a text that was written
pub text_fits : {X E : Type 0} (r : Result X E) (bytes : List ℕ) → IsUtf8 bytes → OnOk r (length bytes < 2 ^ 64)
    → OnOk r (FitsText (chars bytes))
text_fits (Ok x) bytes u h =
    let same : chars bytes ≡ u.0 = ap chars (sym u.1.1) ∙ chars-encodes u.0 u.1.0 in
    (ap all_scalars same ∙ u.1.0, subst (λ b. length b < 2 ^ 64) (sym (encodes-chars bytes u)) h)
text_fits (Err e) bytes u h = tt

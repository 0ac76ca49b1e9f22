-- The smallest parts of a tree's line, read from its start.
use Rattle.std.specs.Prelude.{ℕ, zero, suc, ◌+◌, ◌*◌, ◌-◌, Bool, false, if◌then◌else◌, ◌&&◌, ◌||◌, not}
use Rattle.std.specs.Prelude.{nat_eq, nat_le, nat_lt}
use Rattle.std.specs.Prelude.{List, [], ◌∷◌, length, take, drop, Option, None, Some}
use Rattle.std.specs.Str.{bytes_eq}
use Rattle.rpl_text.specs.Ascii.{is_digit}
use Rattle.rpl_print.specs.Quoted.{is_plain_byte}

-- what is left after a word, where the word stands at the front
abbrev pub after : List ℕ → List ℕ → Option (List ℕ)
after word rest = if bytes_eq (take (length word) rest) word then Some (drop (length word) rest) else None

-- the value of a hexadecimal digit, or 16 for another byte
abbrev pub hex_value : ℕ → ℕ
hex_value digit =
    if nat_le 48 digit && nat_le digit 57 then digit - 48
    else (if nat_le 97 digit && nat_le digit 102 then digit - 87 else 16)

-- the byte has no short escape
abbrev pub is_long : ℕ → Bool
is_long byte =
    not (nat_eq byte 8) && (not (nat_eq byte 9) && (not (nat_eq byte 10)
    && (not (nat_eq byte 12) && not (nat_eq byte 13))))

-- the control that the last two of four digits stand for, the first two being 0
abbrev pub control_by : ℕ → ℕ → Option ℕ
control_by tens ones =
    if nat_lt (hex_value ones) 16 && (nat_le 48 tens && (nat_le tens 49 && is_long (16 * (tens - 48) + hex_value ones)))
    then Some (16 * (tens - 48) + hex_value ones) else None

-- the control that four digits at the front stand for, if it has no shorter escape
abbrev pub control_in : List ℕ → Option ℕ
control_in (a ∷ b ∷ c ∷ d ∷ rest) = if nat_eq a 48 && nat_eq b 48 then control_by c d else None
control_in _ = None

abbrev pub is_short_escape : ℕ → Bool
is_short_escape letter =
    nat_eq letter 34 || (nat_eq letter 92 || (nat_eq letter 98 || (nat_eq letter 102
    || (nat_eq letter 110 || (nat_eq letter 114 || nat_eq letter 116)))))

-- how many bytes an escape at the front has after its backslash, or none where no escape stands there
abbrev pub escape_count : List ℕ → ℕ
escape_count [] = 0
escape_count (letter ∷ rest) =
    if is_short_escape letter then 1
    else (if nat_eq letter 117 then (elim (control_in rest) [ None ↦ 0 | Some byte ↦ 5 ]) else 0)

-- where an escape of so many bytes stands, so many follow its backslash and belong to the string
abbrev pub by_escape : ℕ → ℕ → ℕ
by_escape zero more = 0
by_escape (suc n) more = suc more

-- how many bytes stand before the quote that ends a string, or before what no string has; of the first so many it is
-- known that they belong to an escape
unfoldable pub string_count : ℕ → List ℕ → ℕ
string_count n [] = 0
string_count (suc n) (b ∷ bs) = suc (string_count n bs)
string_count zero (b ∷ bs) =
    if is_plain_byte b then suc (string_count zero bs)
    else (if nat_eq b 92 then by_escape (escape_count bs) (string_count (escape_count bs) bs) else 0)

-- how many digits stand at the front
unfoldable pub digit_count : List ℕ → ℕ
digit_count [] = 0
digit_count (b ∷ bs) = if is_digit b then suc (digit_count bs) else 0

-- the first byte is the digit 0
abbrev pub begins_with_0 : List ℕ → Bool
begins_with_0 [] = false
begins_with_0 (b ∷ bs) = nat_eq b 48

-- how many bytes a number that isn't 0 has at the front
abbrev pub number_count : List ℕ → Option ℕ
number_count rest = if nat_eq (digit_count rest) 0 || begins_with_0 rest then None else Some (digit_count rest)

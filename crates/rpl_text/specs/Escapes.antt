-- The escapes of quoted texts and brackets. All that decides is ASCII, so they are the same over bytes and over
-- characters.
use Rattle.std.specs.Prelude.{ℕ, zero, suc, ◌+◌, ◌*◌, Bool, ◌&&◌, ◌||◌, nat_lt, nat_le, nat_eq, if◌then◌else◌}
use Rattle.std.specs.Prelude.{List, [], ◌∷◌, Option, Some, None, drop}
use Rattle.std.specs.Char.{digit_value}
use Rattle.rpl_text.specs.Characters.{is_char}
use Rattle.rpl_text.specs.Places.{at}

-- the number v with n hexadecimal digits after it, which stand at the front; none where they don't
unfoldable pub hex : ℕ → ℕ → List ℕ → Option ℕ
hex zero v cs = Some v
hex (suc n) v [] = None
hex (suc n) v (c ∷ cs) = if nat_lt (digit_value c) 16 then hex n (16 * v + digit_value c) cs else None

-- the character with a number, after a letter and n digits, where it is one and at most the last
abbrev pub numbered : ℕ → ℕ → Option ℕ → Option (ℕ × ℕ)
numbered n last None = None
numbered n last (Some v) = if is_char v && nat_le v last then Some (v, 1 + n) else None

-- the characters that a backslash leaves as they are: \ " [ ] - ^ :
abbrev pub is_kept : ℕ → Bool
is_kept c =
    nat_eq c 92 || (nat_eq c 34 || (nat_eq c 91 || (nat_eq c 93 || (nat_eq c 45 || (nat_eq c 94 || nat_eq c 58)))))

-- what stands after a backslash: the character that it means, and how many characters it takes
unfoldable pub escape : List ℕ → Option (ℕ × ℕ)
escape [] = None
escape (c ∷ cs) =
    if is_kept c then Some (c, 1)
    else (if nat_eq c 110 then Some (10, 1)  -- \n
    else (if nat_eq c 114 then Some (13, 1)  -- \r
    else (if nat_eq c 116 then Some (9, 1)  -- \t
    else (if nat_eq c 120 then numbered 2 0x7f (hex 2 0 cs)  -- \xHH
    else (if nat_eq c 117 then numbered 4 0x10_ffff (hex 4 0 cs)  -- \uHHHH
    else (if nat_eq c 85 then numbered 8 0x10_ffff (hex 8 0 cs)  -- \UHHHHHHHH
    else None))))))

-- an escape n bytes after a place, as the place after it
abbrev pub shifted : ℕ → Option (ℕ × ℕ) → Option (ℕ × ℕ)
shifted p None = None
shifted p (Some (c, n)) = Some (c, p + n)

abbrev pub placed : List ℕ → ℕ → Option (ℕ × ℕ) → Option (ℕ × ℕ)
placed t i None = None
placed t i (Some (c, n)) = Some (c, at t (i + n))

-- the escape whose backslash has the number i in a text: its character, and the place after it
abbrev pub escape_from : List ℕ → ℕ → Option (ℕ × ℕ)
escape_from t i = placed t (i + 1) (escape (drop (i + 1) t))

-- Numbers in decimal digits.
use Rattle.std.specs.Prelude.{ℕ, ◌+◌, ◌-◌, ◌*◌, ◌^◌, ◌==◌, Bool, not, ◌&&◌, nat_lt, if◌then◌else◌}
use Rattle.std.specs.Prelude.{List, [], ◌∷◌, length, Option, Some, None}
use Rattle.std.specs.List.{list_all}
use Rattle.std.specs.Char.{is_ascii_digit}

-- the number n with the digits after it
abbrev pub value : ℕ → List ℕ → ℕ
value n [] = n
value n (b ∷ bs) = value (n * 10 + (b - 48)) bs

-- one digit or more, and nothing else
abbrev pub are_digits : List ℕ → Bool
are_digits w = not (length w == 0) && list_all is_ascii_digit w

-- the number, where 64 bits hold it
abbrev pub narrow : ℕ → Option ℕ
narrow n = if nat_lt n (2 ^ 64) then Some n else None

-- the number that a word spells, where it is all digits and 64 bits hold the number
abbrev pub number_of : List ℕ → Option ℕ
number_of w = if are_digits w then narrow (value 0 w) else None

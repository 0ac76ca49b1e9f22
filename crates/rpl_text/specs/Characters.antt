-- Numbers of characters.
use Rattle.std.specs.Prelude.{ℕ, Bool, ◌&&◌, ◌||◌, nat_le}

-- the number is that of a character: below the end of Unicode, and no surrogate
abbrev pub is_char : ℕ → Bool
is_char c = nat_le c 0xd7ff || (nat_le 0xe000 c && nat_le c 0x10_ffff)

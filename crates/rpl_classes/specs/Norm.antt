-- The one form of a set: its ranges sorted and joined, and cut to what is a character.
use Rattle.std.specs.Prelude.{ℕ, ◌+◌, List, [], ◌∷◌, nat_lt, nat_le, min, max, if◌then◌else◌}
use Rattle.regex_class.specs.Ranges.{Range}

-- sorted ranges with one more range, which is made one with those that it meets or touches
unfoldable pub join : Range → List Range → List Range
join r [] = r ∷ []
join r (s ∷ ss) =
    if nat_lt (r.1 + 1) s.0 then r ∷ s ∷ ss
    else (if nat_lt (s.1 + 1) r.0 then s ∷ join r ss
    else join (min r.0 s.0, max r.1 s.1) ss)

-- sorted ranges with the numbers from low to high, of which there may be none
unfoldable pub add : ℕ → ℕ → List Range → List Range
add low high ss = if nat_le low high then join (low, high) ss else ss

-- the one sorted list of ranges that don't touch, hold no surrogates, and have just the characters of the ranges as
-- members
unfoldable pub norm : List Range → List Range
norm [] = []
norm (r ∷ rs) = add r.0 (min r.1 0xd7ff) (add (max r.0 0xe000) (min r.1 0x10_ffff) (norm rs))

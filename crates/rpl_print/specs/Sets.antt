-- How a set of characters is printed: its ranges in hexadecimal, one space apart.
use Rattle.std.specs.Prelude.{ℕ, false, nat_eq, List, [], ◌∷◌, ◌++◌, flat_map, codes, if◌then◌else◌}
use Rattle.std.specs.Fmt.{digits}
use Rattle.regex_class.specs.Ranges.{Range}

-- a number in hexadecimal, with small letters and no zeros before it
abbrev pub hexadecimal : ℕ → List ℕ
hexadecimal n = digits 16 false n

-- the first and the last character of a range, or the one that it has
abbrev pub range_text : Range → List ℕ
range_text r = if nat_eq r.0 r.1 then hexadecimal r.0 else hexadecimal r.0 ++ 45 ∷ hexadecimal r.1

-- all ranges, or that there is none
abbrev pub set_text : List Range → List ℕ
set_text [] = codes "none"
set_text (r ∷ rs) = range_text r ++ flat_map (λ s. 32 ∷ range_text s) rs

-- What is done with sets, on any lists of ranges. Each answer is a normal form.
use Rattle.std.specs.Prelude.{ℕ, zero, suc, ◌+◌, ◌-◌, Bool, ◌&&◌, ◌||◌, not, nat_le, if◌then◌else◌, List, [], ◌∷◌}
use Rattle.regex_class.specs.Ranges.{Range, in_ranges}
use Rattle.rpl_unicode.specs.Folding.{folds_with}
use Rattle.rpl_classes.specs.Norm.{norm}

-- the numbers below n that pass a test, each a range of its own
unfoldable pub singles : (ℕ → Bool) → ℕ → List Range
singles p zero = []
singles p (suc n) = if p n then (n, n) ∷ singles p n else singles p n

-- the set of the characters that pass a test
unfoldable pub set_of : (ℕ → Bool) → List Range
set_of p = norm (singles p 0x11_0000)

-- the characters that are in both
unfoldable pub both : List Range → List Range → List Range
both rs ss = set_of (λ c. in_ranges rs c && in_ranges ss c)

-- the characters that are in none of the ranges
unfoldable pub others : List Range → List Range
others rs = set_of (λ c. not (in_ranges rs c))

-- the characters that are in the first and not in the second
unfoldable pub without : List Range → List Range → List Range
without rs ss = set_of (λ c. in_ranges rs c && not (in_ranges ss c))

-- the other case of an ASCII letter, and any other character itself
abbrev pub other_case : ℕ → ℕ
other_case c = if nat_le 0x41 c && nat_le c 0x5a then c + 32 else (if nat_le 0x61 c && nat_le c 0x7a then c - 32 else c)

-- the characters of a set, and the other case of each ASCII letter in it
unfoldable pub widened : List Range → List Range
widened rs = set_of (λ c. in_ranges rs c || in_ranges rs (other_case c))

-- the characters that share a simple folding with one of a set
unfoldable pub folded : List Range → List Range
folded rs = set_of (folds_with (in_ranges rs))

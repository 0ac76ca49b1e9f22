-- Lines that are written one after the other, each of them at least the one before it.
use Rattle.std.specs.Prelude.{◌≡◌, ◌<◌, ◌-◌, ℕ, List, length, drop, get_or}
use Rattle.std.specs.Cmp.Lexicographic.{slice_cmp}
use Rattle.std.specs.List.{concat}
use Rattle.std.specs.List.Sorted.{IsPermutation, IsSorted}
use Rattle.std.specs.Ordering.{nat_cmp}

-- the text has these lines, in ascending order; the last one begins at the byte `last`
pub record AreWritten (done : List (List ℕ)) (text : List ℕ) (last : ℕ) : Type 0 where
  pub lines : List (List ℕ)
  pub members : IsPermutation done lines
  pub order : IsSorted (slice_cmp nat_cmp) lines
  pub same : text ≡ concat lines
  pub end : (d : List ℕ) → 0 < length lines → get_or lines (length lines - 1) d ≡ drop last text

abbrev pub HasLines : (done : List (List ℕ)) (text : List ℕ) → Type 0
HasLines done text = (last : ℕ) × AreWritten done text last

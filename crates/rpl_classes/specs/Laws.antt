-- Laws of sets and brackets.
use Rattle.std.specs.Prelude.{◌≡◌, ℕ, suc, true, false, ◌&&◌, if◌then◌else◌, List, ◌++◌, length, Ok, Err}
use Rattle.regex_class.specs.Ranges.{Range, in_ranges, IsCanonical}
use Rattle.rpl_classes.specs.Sets.{IsNormal, HasJust, is_char}
use Rattle.rpl_classes.specs.Norm.{norm}
use Rattle.rpl_classes.specs.Algebra.{both, others, without}
use Rattle.rpl_classes.specs.Symbols.{Placed, symbols_from, place, rest, begins, past_blanks}
use Rattle.rpl_classes.specs.Lists.{Reading, and_then, changed, list}
use Rattle.rpl_classes.specs.Brackets.{is_class, class, more, joined, bracket, marked, bracket_of}
use Rattle.rpl_classes.specs.declared.fault.SetFault.TheVariants.{BadSet}

-- sets with the same members are the same list, whose ranges are sorted and joined, and hold only characters
pub record OneList : Type 0 where
  pub same : (xs ys : List Range) → IsNormal xs → IsNormal ys → HasJust xs (in_ranges ys) → xs ≡ ys
  pub sorted : (rs : List Range) → IsCanonical (norm rs)
  pub characters : (rs : List Range) (c : ℕ) → in_ranges (norm rs) c ≡ true → is_char c ≡ true
  pub members : (rs : List Range) → HasJust (norm rs) (in_ranges rs)

-- ---- brackets without a bound: each part is read with a number that is large enough

-- a bracket
abbrev pub reading : List Placed → Reading
reading s = bracket (suc (length s)) s

-- further brackets beside those that have the ranges a
abbrev pub further : List Range → List Placed → Reading
further a s = more reading (suc (length s)) a s

-- brackets side by side
abbrev pub side : List Placed → Reading
side s = and_then (reading (past_blanks s)) further

-- what an operator joins with the ranges a
abbrev pub joins : List Range → List Placed → Reading
joins a s = joined reading (suc (length s)) a s

-- what stands after a bracket's `[` and `^`: a compound where the first symbol but blanks is `[`, else a list
abbrev pub content : List Placed → Reading
content s = if begins 91 (past_blanks s) then and_then (side s) joins else list s

-- A bracket is a class, or its content, or after `^` the complement of its content. Brackets side by side are a union.
-- Operators apply from left to right: `&&` keeps what is in both, `--` takes away; a `]` ends the compound. Nothing
-- else may occur there. The first `^` of a text isn't applied but reported.
pub record ReadsInItsOwnWords : Type 0 where
  pub brackets : (s : List Placed) → reading s ≡ (if begins 91 s
      then (if is_class (rest s) then class (place s) (rest s)
      else (if begins 94 (rest s) then changed others (content (rest (rest s))) else content (rest s)))
      else Err (BadSet (place s)))
  pub union : (a : List Range) (s : List Placed) → further a s ≡ (if begins 91 (past_blanks s)
      then and_then (reading (past_blanks s)) (λ c r. further (a ++ c) r)
      else Ok (norm a, s))
  pub operators : (a : List Range) (s : List Placed) → joins a s ≡ (let r = past_blanks s in if begins 93 r
      then Ok (a, rest r)
      else (if begins 38 r && begins 38 (rest r) then and_then (side (rest (rest r))) (λ c q. joins (both a c) q)
      else (if begins 45 r && begins 45 (rest r) then and_then (side (rest (rest r))) (λ c q. joins (without a c) q)
      else Err (BadSet (place r)))))
  pub text : (t : List ℕ) → bracket_of t ≡ (let s = symbols_from t 0 in if begins 91 s
      then (if is_class (rest s) then marked false (class (place s) (rest s))
      else (if begins 94 (rest s) then marked true (content (rest (rest s))) else marked false (content (rest s))))
      else Err (BadSet (place s)))

-- The rule table: the boundary and the built-in `halt`, and then the rules of the modules in order.
use Rattle.std.specs.Prelude.{ℕ, ◌+◌, ◌-◌, Bool, ◌&&◌, nat_eq, if◌then◌else◌, List, [], ◌∷◌, ◌++◌, Some, None, codes}
use Rattle.std.specs.Str.{bytes_eq}
use Rattle.rpl_scope.specs.Packages.{Rule, Module}
use Rattle.rpl_names.specs.declared.table.Row.{Row}

-- ---- full names

abbrev pub boundary_name : List ℕ
boundary_name = codes "~"

-- a name of the top module, whose own boundary isn't that of the table
abbrev pub top_name : List ℕ → List ℕ
top_name n = if bytes_eq n boundary_name then codes "*.~" else n

-- the package name, a dot and the name; in the top module, which has no package name, the name alone
abbrev pub full_name : (label name : List ℕ) → List ℕ
full_name [] n = top_name n
full_name (c ∷ l) n = (c ∷ l) ++ 46 ∷ n

-- ---- blocks

-- a rule stands in a block where its name counts from the block's start on
abbrev pub in_block : Rule → Bool
in_block r = nat_eq r.since r.start

-- and it is the first of it where the block starts at the rule's own place in its module
abbrev pub opens : ℕ → Rule → Bool
opens k r = in_block r && nat_eq r.start k

-- how many blocks have begun up to a rule, if b have begun before it
abbrev pub begun_at : (b k : ℕ) → Rule → ℕ
begun_at b k r = if opens k r then b + 1 else b

abbrev pub begun_in : (b k : ℕ) → List Rule → ℕ
begun_in b k [] = b
begun_in b k (r ∷ rs) = begun_in (begun_at b k r) (k + 1) rs

-- ---- rows

-- the k-th rule of the module i, where b blocks have begun
abbrev pub row_of : List ℕ → (i k b : ℕ) → Rule → Row
row_of label i k b r = record {
  name = full_name label r.name;
  from = i;
  place = k;
  block = if in_block r then Some (b - 1) else None;
}

abbrev pub rows_of : List ℕ → (i k b : ℕ) → List Rule → List Row
rows_of label i k b [] = []
rows_of label i k b (r ∷ rs) = row_of label i k (begun_at b k r) r ∷ rows_of label i (k + 1) (begun_at b k r) rs

-- the rows of the modules from the i-th on, where b blocks have begun
abbrev pub rows_from : (i b : ℕ) → List Module → List Row
rows_from i b [] = []
rows_from i b (m ∷ ms) = rows_of m.label i 0 b m.rules ++ rows_from (i + 1) (begun_in b 0 m.rules) ms

-- the rows of all rules that statements made; the first has the number 2
abbrev pub rows : List Module → List Row
rows ms = rows_from 0 0 ms

-- The first core that is too large, and what an answer says of it.
use Rattle.std.specs.Prelude.{ℕ, ◌+◌, ◌||◌, nat_lt, if◌then◌else◌, min, List, [], ◌∷◌, Option, Some, None}
use Rattle.std.specs.Option.{option_or}
use Rattle.rpl_core.specs.Core.{Core}
use Rattle.rpl_forms.specs.Table.{Row}
use Rattle.rpl_forms.specs.Sizes.{nodes, deep}

pub data Fault : Type 0 where
  TooLarge : (rule : Option ℕ) (size depth : ℕ) → Fault

-- what is wrong with the size of a core
abbrev pub size_fault : (rule : Option ℕ) → Core → Option Fault
size_fault rule p =
    if nat_lt 65536 (nodes p) || nat_lt 1024 (deep p)
    then Some (TooLarge rule (min 65537 (nodes p)) (min 1025 (deep p)))
    else None

-- the first such fault of a table, whose first row has the number k
abbrev pub table_fault : ℕ → List Row → Option Fault
table_fault k [] = None
table_fault k (r ∷ rs) = option_or (size_fault (Some k) r.body) (table_fault (k + 1) rs)

-- Lists of marks, one for each rule, how many rules have one, and lists of rules that wait.
use Rattle.std.specs.Prelude.{ℕ, zero, suc, ◌+◌, Bool, true, false, ◌||◌, nat_eq, List, [], ◌∷◌, slice_index_or}

-- the list marks the rule
abbrev pub marked : List Bool → ℕ → Bool
marked marks r = slice_index_or marks r false

-- how many rules have no mark
abbrev pub unmarked : List Bool → ℕ
unmarked [] = 0
unmarked (true ∷ marks) = unmarked marks
unmarked (false ∷ marks) = suc (unmarked marks)

-- the rule is in the list
abbrev pub waits : List ℕ → ℕ → Bool
waits [] r = false
waits (q ∷ qs) r = nat_eq q r || waits qs r

abbrev pub one_if : Bool → ℕ
one_if true = 1
one_if false = 0

-- how many of the first n numbers are in the set
abbrev pub count : (ℕ → Bool) → ℕ → ℕ
count f zero = 0
count f (suc n) = one_if (f n) + count f n

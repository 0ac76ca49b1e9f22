-- How many characters a core takes, and what leaves that open.
use Rattle.std.specs.Prelude.{ℕ, ◌+◌, Bool, true, false, min, max}
use Rattle.rpl_core.specs.Core.{Core, Set, Seq, Choice, Many, Call, Capture}
use Rattle.rpl_core.specs.Core.{Cores, NoMore, Then}
use Rattle.rpl_core.specs.Parts.{some_inside, some_of}

-- the core calls some rule
abbrev pub is_call : Core → Bool
is_call (Call r) = true
is_call _ = false

abbrev pub has_call : Core → Bool
has_call = some_inside is_call

-- some part does
abbrev pub any_has_call : Cores → Bool
any_has_call = some_of is_call

-- the core repeats something
abbrev pub is_repetition : Core → Bool
is_repetition (Many p) = true
is_repetition _ = false

abbrev pub has_repetition : Core → Bool
has_repetition = some_inside is_repetition

-- some part does
abbrev pub any_has_repetition : Cores → Bool
any_has_repetition = some_of is_repetition

-- The greatest number of characters that the core takes. A call and a repetition have none: whoever asks looks first
-- whether there is one.
abbrev mutual
  pub greatest : Core → ℕ
  greatest (Set s) = 1
  greatest (Seq ps) = greatest_sum ps
  greatest (Choice ps) = greatest_of ps
  greatest (Capture c p) = greatest p
  greatest _ = 0

  -- of all parts in turn
  pub greatest_sum : Cores → ℕ
  greatest_sum NoMore = 0
  greatest_sum (Then p ps) = greatest p + greatest_sum ps

  -- of some part
  pub greatest_of : Cores → ℕ
  greatest_of NoMore = 0
  greatest_of (Then p ps) = max (greatest p) (greatest_of ps)

-- the least number of characters that the core takes, under the same premise
abbrev mutual
  pub least : Core → ℕ
  least (Set s) = 1
  least (Seq ps) = least_sum ps
  least (Choice ps) = least_of ps
  least (Capture c p) = least p
  least _ = 0

  -- of all parts in turn
  pub least_sum : Cores → ℕ
  least_sum NoMore = 0
  least_sum (Then p ps) = least p + least_sum ps

  -- of some part; every choice has two or more
  pub least_of : Cores → ℕ
  least_of NoMore = 65536
  least_of (Then p ps) = min (least p) (least_of ps)

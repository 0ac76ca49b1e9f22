-- How many instructions each kind of pattern has, by its parts.
use Rattle.std.specs.Prelude.{ℕ, ◌+◌, ◌-◌, ◌*◌, min, List, Option, Some, None}
use Rattle.regex_class.specs.Ranges.{Range}
use Rattle.rpl_core.specs.Core.{Core, Set, Seq, Choice, Many, Not, And, Behind, Call, Capture, Note, Start, End, Halt}
use Rattle.rpl_core.specs.Core.{Cores, NoMore, Then}
use Rattle.rpl_core.specs.Head.{head, lone_set}

-- a loop: a span, or the body between two instructions
abbrev pub many_len : Option (List Range) → ℕ → ℕ
many_len (Some s) n = 1
many_len None n = n + 2

-- a negative test: a test and a fail, or the body between two instructions
abbrev pub not_len : Option (List Range) → ℕ → ℕ
not_len (Some s) n = 2
not_len None n = n + 2

-- a part of a choice that others follow, with its test if it has a head
abbrev pub tried_len : Option (List Range) → ℕ → ℕ
tried_len (Some s) n = n + 3
tried_len None n = n + 2

-- how many instructions a core has; `rpl_core` defines its size as the length of its code
abbrev mutual
  pub len : Core → ℕ
  len (Set s) = 1
  len (Seq ps) = len_all ps
  len (Choice ps) = len_first ps
  len (Many p) = many_len (lone_set p) (len p)
  len (Not p) = not_len (lone_set p) (len p)
  len (And p) = len p + 3
  len (Behind least most p) = (most + 1 - least) * (len p + 3) + 1
  len (Call r) = 1
  len (Capture c p) = len p + 2
  len (Note x) = 1
  len Start = 1
  len End = 1
  len Halt = 1

  -- the parts in turn
  pub len_all : Cores → ℕ
  len_all NoMore = 0
  len_all (Then p ps) = len p + len_all ps

  -- a choice of the parts
  pub len_first : Cores → ℕ
  len_first NoMore = 1
  len_first (Then p NoMore) = len p
  len_first (Then p (Then q ps)) = tried_len (head p) (len p) + len_first (Then q ps)

-- how many it has up to the limit of 1,048,576, or the first number past that
abbrev pub capped_len : Core → ℕ
capped_len p = min 1048577 (len p)

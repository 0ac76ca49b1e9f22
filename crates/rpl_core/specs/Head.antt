-- The head of a core: a set outside which it fails.
use Rattle.std.specs.Prelude.{List, [], ◌++◌, Option, Some, None, option_map}
use Rattle.regex_class.specs.Ranges.{Range}
use Rattle.rpl_classes.specs.Norm.{norm}
use Rattle.rpl_core.specs.Core.{Core, Set, Seq, Choice, Capture}
use Rattle.rpl_core.specs.Core.{Cores, NoMore, Then}

-- the ranges of two heads, where there are both
abbrev pub both_heads : Option (List Range) → Option (List Range) → Option (List Range)
both_heads None b = None
both_heads (Some r) None = None
both_heads (Some r) (Some s) = Some (r ++ s)

-- A set is its own head. A sequence has that of its first part, a choice the union of those of its parts where
-- each has one, a capture that of its body. Every other core has none: it may succeed and take nothing, or its
-- start isn't looked at.
abbrev mutual
  pub head : Core → Option (List Range)
  head (Set s) = Some s
  head (Seq ps) = first_head ps
  head (Choice ps) = option_map norm (all_heads ps)
  head (Capture c p) = head p
  head _ = None

  -- the head of the first part
  pub first_head : Cores → Option (List Range)
  first_head NoMore = None
  first_head (Then p ps) = head p

  -- the ranges of all heads
  pub all_heads : Cores → Option (List Range)
  all_heads NoMore = Some []
  all_heads (Then p ps) = both_heads (head p) (all_heads ps)

-- the set, where the core is nothing but one
abbrev pub lone_set : Core → Option (List Range)
lone_set (Set s) = Some s
lone_set _ = None

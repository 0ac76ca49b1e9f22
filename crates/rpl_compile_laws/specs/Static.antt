-- What of a core shows without a text: whether it may be empty, and whether it may halt.
use Rattle.std.specs.Prelude.{◌≡◌, ℕ, Bool, true, false, ◌||◌, ◌&&◌, not, List, Some, slice_get}
use Rattle.rpl_core.specs.Core.{Core, Set, Seq, Choice, Many, Not, And, Behind, Call, Capture, Halt}
use Rattle.rpl_core.specs.Core.{Cores, NoMore, Then}
use Rattle.rpl_core.specs.Parts.{some_inside, some_of}
use Rattle.rpl_core.specs.Programs.{Reaches}

-- the core may succeed and take nothing, where just the rules of m may
abbrev mutual
  pub may_be_empty : (ℕ → Bool) → Core → Bool
  may_be_empty m (Set s) = false
  may_be_empty m (Seq ps) = all_may_be_empty m ps
  may_be_empty m (Choice ps) = any_may_be_empty m ps
  may_be_empty m (Call r) = m r
  may_be_empty m (Capture c p) = may_be_empty m p
  may_be_empty m Halt = false
  may_be_empty m _ = true

  -- all parts may
  pub all_may_be_empty : (ℕ → Bool) → Cores → Bool
  all_may_be_empty m NoMore = true
  all_may_be_empty m (Then p ps) = may_be_empty m p && all_may_be_empty m ps

  -- some part may
  pub any_may_be_empty : (ℕ → Bool) → Cores → Bool
  any_may_be_empty m NoMore = false
  any_may_be_empty m (Then p ps) = may_be_empty m p || any_may_be_empty m ps

-- the core may end the whole match, where just the rules of h may
abbrev pub halts_here : (ℕ → Bool) → Core → Bool
halts_here h (Call r) = h r
halts_here h Halt = true
halts_here h _ = false

abbrev pub may_halt : (ℕ → Bool) → Core → Bool
may_halt h = some_inside (halts_here h)

-- some part may
abbrev pub any_may_halt : (ℕ → Bool) → Cores → Bool
any_may_halt h = some_of (halts_here h)

-- no body of a predicate in the core may halt
abbrev mutual
  pub predicates_stay : (ℕ → Bool) → Core → Bool
  predicates_stay h (Seq ps) = all_predicates_stay h ps
  predicates_stay h (Choice ps) = all_predicates_stay h ps
  predicates_stay h (Many p) = predicates_stay h p
  predicates_stay h (Not p) = not (may_halt h p) && predicates_stay h p
  predicates_stay h (And p) = not (may_halt h p) && predicates_stay h p
  predicates_stay h (Behind l m p) = not (may_halt h p) && predicates_stay h p
  predicates_stay h (Capture c p) = predicates_stay h p
  predicates_stay h _ = true

  -- no body of a predicate in any part may halt
  pub all_predicates_stay : (ℕ → Bool) → Cores → Bool
  all_predicates_stay h NoMore = true
  all_predicates_stay h (Then p ps) = predicates_stay h p && all_predicates_stay h ps

-- The rules of h are all that may halt, and no body of a predicate may, neither in the goal g over the table R
-- nor in a rule that it reaches.
pub record NoPredicateHalts (h : ℕ → Bool) (R : List Core) (g : Core) : Type 0 where
  pub closed : (r : ℕ) (p : Core) → slice_get R r ≡ Some p → h r ≡ false → may_halt h p ≡ false
  pub rules : (r : ℕ) (p : Core) → Reaches R g r → slice_get R r ≡ Some p → predicates_stay h p ≡ true
  pub goal : predicates_stay h g ≡ true

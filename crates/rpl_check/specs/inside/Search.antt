-- How the rules of a block that reach themselves before a character are found.
use Rattle.std.specs.Prelude.{◌≡◌, ℕ, ◌+◌, ◌-◌, ◌≤◌, Bool, true, false, ◌||◌, ◌&&◌, not, nat_lt, nat_le}
use Rattle.std.specs.Prelude.{List, length, Option, Some, None, slice_index_or}
use Rattle.rpl_core.specs.Core.{Core, Set, Seq, Choice, Many, Not, And, Behind, Call, Capture, Note, Start, End, Halt}
use Rattle.rpl_core.specs.Core.{Cores, NoMore, Then}
use Rattle.rpl_compile_laws.specs.Static.{may_be_empty, all_may_be_empty, any_may_be_empty}
use Rattle.rpl_core.specs.Marks.{marked, unmarked, waits}
use Rattle.rpl_check.specs.inside.Reach.{OverReach}
use Rattle.rpl_check.specs.declared.recursion.BlockSearch.{BlockSearch}

-- the rule stands before a, or the list, which begins there, marks it
abbrev pub marked_from : ℕ → List Bool → ℕ → Bool
marked_from a marks r = nat_lt r a || slice_index_or marks (r - a) false

-- each rule that the core may call before it has taken a character is in w, where just the rules of m may be empty
abbrev mutual
  pub calls_within : (m w : ℕ → Bool) → Core → Bool
  calls_within m w (Set s) = true
  calls_within m w (Seq ps) = front_calls_within m w ps
  calls_within m w (Choice ps) = each_calls_within m w ps
  calls_within m w (Many p) = calls_within m w p
  calls_within m w (Not p) = calls_within m w p
  calls_within m w (And p) = calls_within m w p
  calls_within m w (Behind l n p) = calls_within m w p
  calls_within m w (Call r) = w r
  calls_within m w (Capture c p) = calls_within m w p
  calls_within m w (Note x) = true
  calls_within m w Start = true
  calls_within m w End = true
  calls_within m w Halt = true

  -- the parts up to and with the first that may not be empty
  pub front_calls_within : (m w : ℕ → Bool) → Cores → Bool
  front_calls_within m w NoMore = true
  front_calls_within m w (Then p ps) = calls_within m w p && (not (may_be_empty m p) || front_calls_within m w ps)

  -- all parts
  pub each_calls_within : (m w : ℕ → Bool) → Cores → Bool
  each_calls_within m w NoMore = true
  each_calls_within m w (Then p ps) = calls_within m w p && each_calls_within m w ps

-- where all are within, whether the core may be empty
abbrev pub within_or_none : Bool → Bool → Option Bool
within_or_none true empty = Some empty
within_or_none false empty = None

-- whether the core may be empty, where each rule that it may call before a character is in w
abbrev pub clean_core : (m w : ℕ → Bool) → Core → Option Bool
clean_core m w p = within_or_none (calls_within m w p) (may_be_empty m p)

-- so it is with parts in turn
abbrev pub clean_all : (m w : ℕ → Bool) → Cores → Option Bool
clean_all m w ps = within_or_none (front_calls_within m w ps) (all_may_be_empty m ps)

-- and with a choice of the parts
abbrev pub clean_each : (m w : ℕ → Bool) → Cores → Option Bool
clean_each m w ps = within_or_none (each_calls_within m w ps) (any_may_be_empty m ps)

-- the marked rules of a block that begins at a don't reach themselves
abbrev pub AreClean : List Core → (ℕ → Bool) → ℕ → List Bool → Type 0
AreClean R m a clean =
    OverReach R m (λ reach. (r : ℕ) → a ≤ r → marked clean (r - a) ≡ true → reach r r ≡ false)

-- the marked rules of a block that begins at a reach themselves
abbrev pub AreLeft : List Core → (ℕ → Bool) → ℕ → List Bool → Type 0
AreLeft R m a left =
    OverReach R m (λ reach. (q : ℕ) → a ≤ q → marked left (q - a) ≡ true → reach q q ≡ true)

-- the rule is one of the block
abbrev pub in_block : BlockSearch → ℕ → Bool
in_block s r = nat_le s.start r && nat_lt (r - s.start) (length s.marks.items)

-- the rule is one of the block, and was found
abbrev pub found : BlockSearch → ℕ → Bool
found s r = nat_le s.start r && marked s.marks.items (r - s.start)

-- the rules of the block that pass the test are found as well, and those found anew wait
pub record Finds (test : ℕ → Bool) (old new : BlockSearch) : Type 0 where
  pub start : new.start ≡ old.start
  pub long : length new.marks.items ≡ length old.marks.items
  pub marks : (r : ℕ) → found new r ≡ (found old r || (in_block old r && test r))
  pub waiting : (r : ℕ) → waits new.waiting.items r ≡ (waits old.waiting.items r || (found new r && not (found old r)))
  pub left : length new.waiting.items + unmarked new.marks.items ≡ length old.waiting.items + unmarked old.marks.items

-- the rules that pass the test are listed as well
abbrev pub Lists : (ℕ → Bool) → (old new : List ℕ) → Type 0
Lists test old new = (r : ℕ) → waits new r ≡ (waits old r || test r)

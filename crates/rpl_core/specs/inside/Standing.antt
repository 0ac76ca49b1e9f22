-- Whether each rule of a table stands in order, and whether a pattern calls rules of the table alone.
use Rattle.std.specs.Prelude.{◌≡◌, ℕ, zero, suc, ◌+◌, ◌-◌, ◌<◌, Bool, true, false, ◌||◌, ◌&&◌, not, nat_le, nat_lt, max}
use Rattle.std.specs.Prelude.{List, Option, Some, None, slice_get}
use Rattle.rpl_core.specs.Core.{Core, Set, Seq, Choice, Many, Not, And, Behind, Call, Capture, Note, Start, End, Halt}
use Rattle.rpl_core.specs.Core.{Cores, NoMore, Then}
use Rattle.rpl_core.specs.Order.{block_at, same_block, joins_next}

-- each rule that the core calls passes the test
abbrev mutual
  pub calls_only : (ℕ → Bool) → Core → Bool
  calls_only test (Set s) = true
  calls_only test (Seq ps) = all_call_only test ps
  calls_only test (Choice ps) = all_call_only test ps
  calls_only test (Many p) = calls_only test p
  calls_only test (Not p) = calls_only test p
  calls_only test (And p) = calls_only test p
  calls_only test (Behind l n p) = calls_only test p
  calls_only test (Call r) = test r
  calls_only test (Capture c p) = calls_only test p
  calls_only test (Note x) = true
  calls_only test Start = true
  calls_only test End = true
  calls_only test Halt = true

  pub all_call_only : (ℕ → Bool) → Cores → Bool
  all_call_only test NoMore = true
  all_call_only test (Then p ps) = calls_only test p && all_call_only test ps

-- each rule that the body of a rule calls passes the test, if there is a body
abbrev pub body_calls_only : (ℕ → Bool) → Option Core → Bool
body_calls_only test None = true
body_calls_only test (Some p) = calls_only test p

-- the rule r may call s: it stands before it, or in its block
abbrev pub may_call : List (Option ℕ) → ℕ → ℕ → Bool
may_call blocks r s = nat_lt s r || same_block (block_at (slice_get blocks r)) (block_at (slice_get blocks s))

-- one of the first n rules is in the block of the rule k
abbrev pub has_mate : List (Option ℕ) → ℕ → ℕ → Bool
has_mate blocks k zero = false
has_mate blocks k (suc n) =
    same_block (block_at (slice_get blocks k)) (block_at (slice_get blocks n)) || has_mate blocks k n

-- the blocks of the first n rules are below the number `next`
abbrev pub AreBelow : List (Option ℕ) → (n next : ℕ) → Type 0
AreBelow blocks n next = (r b : ℕ) → r < n → block_at (slice_get blocks r) ≡ Some b → b < next

-- a block isn't below that number, or there is none
abbrev pub is_new : ℕ → Option ℕ → Bool
is_new next None = true
is_new next (Some block) = nat_le next block

-- a number that is above a block, too, if there is one
abbrev pub above : ℕ → Option ℕ → ℕ
above next None = next
above next (Some block) = max next (block + 1)

-- the rule k is in the block of an earlier rule, and not in that of the rule before it
abbrev pub is_split : List (Option ℕ) → ℕ → Bool
is_split blocks k = has_mate blocks k k && not (joins_next blocks (k - 1))

-- the rule k stands in order
abbrev pub stands : List Core → List (Option ℕ) → ℕ → Bool
stands R blocks k = body_calls_only (may_call blocks k) (slice_get R k) && not (is_split blocks k)

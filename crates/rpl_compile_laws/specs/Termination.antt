-- What of a table and a goal makes every evaluation end.
use Rattle.std.specs.Prelude.{◌≡◌, ℕ, ◌<◌, Bool, true, false, List, length, Some, slice_get}
use Rattle.rpl_core.specs.Core.{Core, Set, Seq, Choice, Many, Not, And, Behind, Call, Capture, Note, Start, End, Halt}
use Rattle.rpl_core.specs.Core.{Cores, NoMore, Then}
use Rattle.rpl_core.specs.Lengths.{has_call, has_repetition}
use Rattle.rpl_compile_laws.specs.Static.{may_be_empty}

-- what is asked only where the part before may be empty
abbrev pub IfEmpty : Bool → Type 0 → Type 0
IfEmpty true P = P
IfEmpty false P = Unit {0}

-- each rule that the core may call before it has taken a character has a rank below k
abbrev mutual
  pub CallsBelow : (ℕ → Bool) → (ℕ → ℕ) → ℕ → Core → Type 0
  CallsBelow m rank k (Set s) = Unit {0}
  CallsBelow m rank k (Seq ps) = AllCallBelow m rank k ps
  CallsBelow m rank k (Choice ps) = EachCallsBelow m rank k ps
  CallsBelow m rank k (Many p) = CallsBelow m rank k p
  CallsBelow m rank k (Not p) = CallsBelow m rank k p
  CallsBelow m rank k (And p) = CallsBelow m rank k p
  CallsBelow m rank k (Behind l n p) = CallsBelow m rank k p
  CallsBelow m rank k (Call r) = rank r < k
  CallsBelow m rank k (Capture c p) = CallsBelow m rank k p
  CallsBelow m rank k (Note x) = Unit {0}
  CallsBelow m rank k Start = Unit {0}
  CallsBelow m rank k End = Unit {0}
  CallsBelow m rank k Halt = Unit {0}

  -- so it is with parts in turn
  pub AllCallBelow : (ℕ → Bool) → (ℕ → ℕ) → ℕ → Cores → Type 0
  AllCallBelow m rank k NoMore = Unit {0}
  AllCallBelow m rank k (Then p ps) = CallsBelow m rank k p × IfEmpty (may_be_empty m p) (AllCallBelow m rank k ps)

  -- and with each of the parts
  pub EachCallsBelow : (ℕ → Bool) → (ℕ → ℕ) → ℕ → Cores → Type 0
  EachCallsBelow m rank k NoMore = Unit {0}
  EachCallsBelow m rank k (Then p ps) = CallsBelow m rank k p × EachCallsBelow m rank k ps

-- the core has no call and no repetition
abbrev pub IsPlain : Core → Type 0
IsPlain p = (has_call p ≡ false) × (has_repetition p ≡ false)

-- each call is one of n rules, no repeated body may be empty, and each body of a look-behind is plain
abbrev mutual
  pub IsTidy : (ℕ → Bool) → ℕ → Core → Type 0
  IsTidy m n (Set s) = Unit {0}
  IsTidy m n (Seq ps) = AreTidy m n ps
  IsTidy m n (Choice ps) = AreTidy m n ps
  IsTidy m n (Many p) = (may_be_empty m p ≡ false) × IsTidy m n p
  IsTidy m n (Not p) = IsTidy m n p
  IsTidy m n (And p) = IsTidy m n p
  IsTidy m n (Behind l k p) = IsPlain p
  IsTidy m n (Call r) = r < n
  IsTidy m n (Capture c p) = IsTidy m n p
  IsTidy m n (Note x) = Unit {0}
  IsTidy m n Start = Unit {0}
  IsTidy m n End = Unit {0}
  IsTidy m n Halt = Unit {0}

  pub AreTidy : (ℕ → Bool) → ℕ → Cores → Type 0
  AreTidy m n NoMore = Unit {0}
  AreTidy m n (Then p ps) = IsTidy m n p × AreTidy m n ps

-- A table and a goal whose evaluations end: the rules of m are all that may be empty, the ranks are below the number
-- of rules and fall along the calls that come before a character, and all is tidy.
pub record Terminates (m : ℕ → Bool) (rank : ℕ → ℕ) (R : List Core) (g : Core) : Type 0 where
  pub empties : (r : ℕ) (p : Core) → slice_get R r ≡ Some p → m r ≡ false → may_be_empty m p ≡ false
  pub low : (r : ℕ) → r < length R → rank r < length R
  pub falls : (r : ℕ) (p : Core) → slice_get R r ≡ Some p → CallsBelow m rank (rank r) p
  pub rules : (r : ℕ) (p : Core) → slice_get R r ≡ Some p → IsTidy m (length R) p
  pub goal : IsTidy m (length R) g

-- The static facts of a table of rules, which show without a text: each is the least set that the rules give.
use Rattle.std.specs.Prelude.{◌≡◌, ℕ, Bool, true, false, ◌||◌, ◌&&◌, nat_eq, List, Option, Some, None, slice_get}
use Rattle.rpl_core.specs.Core.{Core, Seq, Choice, Many, Not, And, Behind, Call, Capture}
use Rattle.rpl_core.specs.Core.{Cores, NoMore, Then}
use Rattle.rpl_compile_laws.specs.Static.{may_be_empty}
use Rattle.rpl_compile_laws.specs.Static.{may_halt}

-- the core may call the rule r before it has taken a character, where just the rules of m may be empty
abbrev mutual
  pub calls_here : (ℕ → Bool) → Core → ℕ → Bool
  calls_here m (Seq ps) r = front_calls_here m ps r
  calls_here m (Choice ps) r = any_calls_here m ps r
  calls_here m (Many p) r = calls_here m p r
  calls_here m (Not p) r = calls_here m p r
  calls_here m (And p) r = calls_here m p r
  calls_here m (Behind l n p) r = calls_here m p r
  calls_here m (Call q) r = nat_eq q r
  calls_here m (Capture c p) r = calls_here m p r
  calls_here m _ r = false

  -- the parts up to and with the first that may not be empty
  pub front_calls_here : (ℕ → Bool) → Cores → ℕ → Bool
  front_calls_here m NoMore r = false
  front_calls_here m (Then p ps) r = calls_here m p r || (may_be_empty m p && front_calls_here m ps r)

  -- some part
  pub any_calls_here : (ℕ → Bool) → Cores → ℕ → Bool
  any_calls_here m NoMore r = false
  any_calls_here m (Then p ps) r = calls_here m p r || any_calls_here m ps r

-- a rule passes a test if it is in the table and its body does
abbrev pub passes : (Core → Bool) → Option Core → Bool
passes test None = false
passes test (Some p) = test p

-- the rule q calls the rule r before it has taken a character
abbrev pub calls_at : (ℕ → Bool) → List Core → ℕ → ℕ → Bool
calls_at m R q r = passes (λ p. calls_here m p r) (slice_get R q)

-- the set m has each rule that passes the test, where just the rules of m are known to
abbrev pub Solves : ((ℕ → Bool) → Core → Bool) → List Core → (ℕ → Bool) → Type 0
Solves test R m = (r : ℕ) → passes (test m) (slice_get R r) ≡ true → m r ≡ true

-- the set s has each rule that the first rule calls before a character, and each that a rule of s calls so
pub record Follows (R : List Core) (m : ℕ → Bool) (first_rule : ℕ) (s : ℕ → Bool) : Type 0 where
  pub first : (r : ℕ) → calls_at m R first_rule r ≡ true → s r ≡ true
  pub further : (q r : ℕ) → s q ≡ true → calls_at m R q r ≡ true → s r ≡ true

-- the least of the sets that are closed in some sense
pub record IsLeast (closed : (ℕ → Bool) → Type 0) (m : ℕ → Bool) : Type 0 where
  pub solution : closed m
  pub least : (k : ℕ → Bool) → closed k → (r : ℕ) → m r ≡ true → k r ≡ true

-- the rules that may be empty, those that may halt, and those that each rule reaches before a character
pub record Facts (R : List Core) : Type 0 where
  pub empties : ℕ → Bool
  pub halting : ℕ → Bool
  pub reach : ℕ → ℕ → Bool
  pub empties_least : IsLeast (Solves may_be_empty R) empties
  pub halting_least : IsLeast (Solves may_halt R) halting
  pub reach_least : (r : ℕ) → IsLeast (Follows R empties r) (reach r)

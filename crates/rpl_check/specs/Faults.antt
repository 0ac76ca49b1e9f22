-- The faults that a rule or a pattern may have by itself, and the first fault of a pattern.
use Rattle.std.specs.Prelude.{ℕ, zero, suc, ◌+◌, Bool, true, false, not, List, Option, Some, None, slice_get}
use Rattle.std.specs.Option.{option_and_then, option_map, option_or}
use Rattle.rpl_core.specs.Core.{Core}
use Rattle.rpl_compile_laws.specs.Static.{predicates_stay}
use Rattle.rpl_check.specs.Causes.{Cause, first_cause}
use Rattle.rpl_facts.specs.Facts.{passes}
use Rattle.rpl_check.specs.Loops.{has_empty_loop}

-- what is wrong with a rule, or with a pattern where there is no rule; of left recursion the rules are listed
pub data Fault : Type 0 where
  LookBehind : (rule : Option ℕ) (cause : Cause) → Fault
  LeftRecursion : (rules : List ℕ) → Fault
  EmptyLoop : (rule : Option ℕ) → Fault
  HaltInside : (rule : Option ℕ) → Fault

-- the fault, where there is one
abbrev pub fault_if : Bool → Fault → Option Fault
fault_if true f = Some f
fault_if false f = None

-- a predicate in the core may halt, where just the rules of h may
abbrev pub has_halt_inside : (ℕ → Bool) → Core → Bool
has_halt_inside h p = not (predicates_stay h p)

-- the fault of a rule that has a bad look-behind, an empty loop, or a halt under a predicate
abbrev pub behind_at : List Core → ℕ → Option Fault
behind_at R r = option_map (LookBehind (Some r)) (option_and_then first_cause (slice_get R r))

abbrev pub loop_at : (ℕ → Bool) → List Core → ℕ → Option Fault
loop_at m R r = fault_if (passes (has_empty_loop m) (slice_get R r)) (EmptyLoop (Some r))

abbrev pub halt_at : (ℕ → Bool) → List Core → ℕ → Option Fault
halt_at h R r = fault_if (passes (has_halt_inside h) (slice_get R r)) (HaltInside (Some r))

-- the first that f finds at the n numbers from k on
abbrev pub first_from : (ℕ → Option Fault) → ℕ → ℕ → Option Fault
first_from f k zero = None
first_from f k (suc n) = option_or (f k) (first_from f (k + 1) n)

-- The first fault of a pattern: a look-behind, an empty loop, or a halt under a predicate. The rules of m may be empty,
-- those of h may halt.
abbrev pub goal_fault : (ℕ → Bool) → (ℕ → Bool) → Core → Option Fault
goal_fault m h g =
    option_or
    (option_map (LookBehind None) (first_cause g))
    (option_or (fault_if (has_empty_loop m g) (EmptyLoop None)) (fault_if (has_halt_inside h g) (HaltInside None)))

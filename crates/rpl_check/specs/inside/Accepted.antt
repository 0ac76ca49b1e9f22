-- What is known of a table without faults.
use Rattle.std.specs.Prelude.{◌≡◌, ℕ, ◌<◌, Bool, true, false, List, length, Some, None, slice_get}
use Rattle.rpl_core.specs.Core.{Core}
use Rattle.rpl_compile_laws.specs.Static.{may_be_empty}
use Rattle.rpl_compile_laws.specs.Static.{may_halt, predicates_stay}
use Rattle.rpl_check.specs.Causes.{first_cause}
use Rattle.rpl_facts.specs.Facts.{IsLeast, Solves}
use Rattle.rpl_facts.specs.Laws.{CallsStay}
use Rattle.rpl_check.specs.Loops.{has_empty_loop}
use Rattle.rpl_check.specs.inside.Reach.{Reach}

-- the table R has no fault, the rules of m are those that may be empty, and those of h those that may halt
pub record IsAccepted (R : List Core) (m h : ℕ → Bool) : Type 0 where
  pub empties : IsLeast (Solves may_be_empty R) m
  pub halting : IsLeast (Solves may_halt R) h
  pub calls : CallsStay R
  pub behinds : (r : ℕ) (p : Core) → slice_get R r ≡ Some p → first_cause p ≡ None
  pub loops : (r : ℕ) (p : Core) → slice_get R r ≡ Some p → has_empty_loop m p ≡ false
  pub halts : (r : ℕ) (p : Core) → slice_get R r ≡ Some p → predicates_stay h p ≡ true
  pub selves : (reach : ℕ → ℕ → Bool) → Reach R m reach → (r : ℕ) → r < length R → reach r r ≡ false

-- What is known of a goal without faults.
use Rattle.std.specs.Prelude.{◌≡◌, ◌≢◌, ℕ, ◌<◌, Bool, true, List, length, Option, None}
use Rattle.rpl_core.specs.Core.{Core}
use Rattle.rpl_core.specs.Meaning.{Open}
use Rattle.rpl_core.specs.Order.{IsInOrder}
use Rattle.rpl_core.specs.Outcome.{outcome}
use Rattle.rpl_core.specs.Programs.{calls}
use Rattle.rpl_compile_laws.specs.Static.{NoPredicateHalts}
use Rattle.rpl_check.specs.Blocks.{first_fault}
use Rattle.rpl_facts.specs.Facts.{Facts}
use Rattle.rpl_check.specs.Faults.{goal_fault}
use Rattle.rpl_facts.specs.Laws.{CallsStay}

-- The goal g over the table R means something on every text, and so does its code: its outcome is never open, no
-- predicate in it or in a rule that it reaches may halt, and it and all rules call rules of the table alone.
pub record IsWhole (R : List Core) (g : Core) : Type 0 where
  pub shut : (t : List ℕ) → outcome R g t ≢ Open
  pub stays : (h : ℕ → Bool) × NoPredicateHalts h R g
  pub goal : (r : ℕ) → calls g r ≡ true → r < length R
  pub rules : CallsStay R

-- Each goal that calls rules of a table alone is whole, if the table is in order and neither of the two has a fault.
abbrev pub NeverOpenLaw : Type 0
NeverOpenLaw =
    (R : List Core) (blocks : List (Option ℕ)) (d : Facts R) (g : Core) →
    length blocks ≡ length R → IsInOrder R blocks → first_fault d blocks ≡ None →
    ((r : ℕ) → calls g r ≡ true → r < length R) → goal_fault d.empties d.halting g ≡ None → IsWhole R g

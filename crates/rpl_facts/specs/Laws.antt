-- What holds of all tables: they have static facts, and just one set of them.
use Rattle.std.specs.Prelude.{◌≡◌, ℕ, ◌<◌, true, List, length, Some, slice_get}
use Rattle.rpl_core.specs.Core.{Core}
use Rattle.rpl_core.specs.Programs.{calls}
use Rattle.rpl_facts.specs.Facts.{Facts}

-- each rule of the table calls rules of the table alone
abbrev pub CallsStay : List Core → Type 0
CallsStay R = (r s : ℕ) (p : Core) → slice_get R r ≡ Some p → calls p s ≡ true → s < length R

-- a table whose rules call only rules of the table has static facts
abbrev pub FactsLaw : Type 0
FactsLaw = (R : List Core) → CallsStay R → Facts R

-- any two sets of static facts of one table are equal
pub record AreSame (R : List Core) (d e : Facts R) : Type 0 where
  pub empties : d.empties ≡ e.empties
  pub halting : d.halting ≡ e.halting
  pub reach : d.reach ≡ e.reach

abbrev pub OneFactsLaw : Type 0
OneFactsLaw = (R : List Core) (d e : Facts R) → AreSame R d e

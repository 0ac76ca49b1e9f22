-- How contracts see the roots so far.
use Rattle.std.specs.Prelude.{ℕ, List, Option}
use Rattle.rpl_names.specs.Loading as L
use Rattle.rpl_names.specs.Roots.{Roots}
use Rattle.rpl_names.specs.Stocks.{state_seen}
use Rattle.rpl_package.specs.declared.stock.State.{State}

abbrev pub seen : State → L.State
seen s = state_seen s.stock s.own

abbrev pub roots_seen : List (Option ℕ) → State → Roots
roots_seen roots s = record { roots = roots; state = seen s }

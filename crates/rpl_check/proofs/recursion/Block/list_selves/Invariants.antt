use Rattle.std.proofs.Common.{◌≡◌, ℕ, ◌-◌, ◌≤◌, ◌++◌}
use Rattle.std.specs.Prelude.{Bool}
use Rattle.rpl_check.specs.Blocks.{selves}
use Rattle.rpl_check.specs.inside.Reach.{Reach}
use Rattle.rpl_check.specs.inside.Within.{table_of, empty_in}
use Rattle.rpl_check.proofs.recursion.Block.list_selves.Given as goal

abbrev pub invariant-loop-number : goal.invariant-loop-number
invariant-loop-number l =
    (l.self.start ≤ l.number)
    × ((reach : ℕ → ℕ → Bool) → Reach (table_of l.self) (empty_in l.self) reach
    → selves reach l.self.start (l.self.end - l.self.start) ≡ l.list.items
    ++ selves reach l.number (l.self.end - l.number))

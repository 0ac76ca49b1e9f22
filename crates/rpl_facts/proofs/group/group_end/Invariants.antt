use Rattle.std.proofs.Common.{◌≡◌, ℕ, ◌<◌, ◌≤◌}
use Rattle.std.specs.Prelude.{true}
use Rattle.rpl_core.specs.Listed.{rules_of}
use Rattle.rpl_core.specs.Order.{joins_next}
use Rattle.rpl_core.specs.Table.{blocks_of}
use Rattle.rpl_facts.proofs.group.group_end.Given as goal

abbrev pub invariant-loop-number : goal.invariant-loop-number
invariant-loop-number l = (k : ℕ) → l.start ≤ k → k < l.number → joins_next (blocks_of (rules_of l.rules)) k ≡ true

use Rattle.std.proofs.Common.{◌≡◌, ℕ, ◌<◌}
use Rattle.std.specs.Prelude.{true}
use Rattle.rpl_core.specs.Listed.{rules_of}
use Rattle.rpl_core.specs.Table.{blocks_of, bodies_of}
use Rattle.rpl_core.specs.inside.Standing.{stands, AreBelow}
use Rattle.rpl_core.proofs.order.is_in_order.Given as goal

abbrev pub invariant-loop-number : goal.invariant-loop-number
invariant-loop-number l =
    let blocks = blocks_of (rules_of l.rules) in
    ((k : ℕ) → k < l.number → stands (bodies_of (rules_of l.rules)) blocks k ≡ true) × AreBelow blocks l.number l.next

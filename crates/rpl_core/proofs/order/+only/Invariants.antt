use Rattle.std.proofs.Common.{◌≡◌, drop}
use Rattle.rpl_core.specs.Listed.{rules_of}
use Rattle.rpl_core.specs.Table.{blocks_of}
use Rattle.rpl_core.specs.View.{cores}
use Rattle.rpl_core.specs.inside.Standing.{all_call_only, may_call}
use Rattle.rpl_core.proofs.order.+only.Given as goal

abbrev pub invariant-all_call_only-loop-part : goal.invariant-all_call_only-loop-part
invariant-all_call_only-loop-part l =
    let test = may_call (blocks_of (rules_of l.rules)) l.number in
    all_call_only test (cores l.parts) ≡ all_call_only test (cores (drop l.part-index l.parts))

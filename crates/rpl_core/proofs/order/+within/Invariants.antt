use Rattle.std.proofs.Common.{◌≡◌, drop}
use Rattle.std.specs.Prelude.{nat_lt}
use Rattle.rpl_core.specs.View.{cores}
use Rattle.rpl_core.specs.inside.Standing.{all_call_only}
use Rattle.rpl_core.proofs.order.+within.Given as goal

abbrev pub invariant-all_call_within-loop-part : goal.invariant-all_call_within-loop-part
invariant-all_call_within-loop-part l =
    all_call_only (λ r. nat_lt r l.count) (cores l.parts)
    ≡ all_call_only (λ r. nat_lt r l.count) (cores (drop l.part-index l.parts))

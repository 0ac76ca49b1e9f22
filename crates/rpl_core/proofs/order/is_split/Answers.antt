use Rattle.std.proofs.Common.{◌-◌, sym, ap}
use Rattle.std.specs.Prelude.{◌&&◌, not}
use Rattle.rpl_core.specs.Listed.{rules_of}
use Rattle.rpl_core.specs.Table.{blocks_of}
use Rattle.rpl_core.specs.Order.{joins_next}
use Rattle.rpl_core.specs.inside.Standing.{is_split}
use Rattle.rpl_core.proofs.Standings.{no_mate}
use Rattle.rpl_core.proofs.order.is_split.Goals.{then-number-eq0-via-then-number-eq0}
use Rattle.rpl_core.proofs.order.is_split.Goals.{then-number-eq0-via-else-number-eq0+then-is_outside}
use Rattle.rpl_core.proofs.order.is_split.Goals as goal

pub returns-then-number-eq0 : goal.returns-then-number-eq0
returns-then-number-eq0 c =
    let blocks = blocks_of (rules_of c.args.rules.now) in
    let k = c.args.number in
    elim c.then-number-eq0.branch [
      | then-number-eq0-via-then-number-eq0 w ↦ sym (ap (is_split blocks) w.if-number-eq0.true)
      | then-number-eq0-via-else-number-eq0+then-is_outside w ↦
          sym (ap (λ b. b && not (joins_next blocks (k - 1)))
          (no_mate blocks k k (w.is_outside.ensures.0 w.if-is_outside.true)))
    ]

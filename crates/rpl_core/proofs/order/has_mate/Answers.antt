use Rattle.std.proofs.Common.{◌∙◌, sym, refl}
use Rattle.std.specs.Prelude.{slice_get}
use Rattle.rpl_core.specs.Listed.{rules_of}
use Rattle.rpl_core.specs.Order.{block_at}
use Rattle.rpl_core.specs.Table.{blocks_of}
use Rattle.rpl_core.proofs.Standings.{new_mate}
use Rattle.rpl_core.proofs.order.has_mate.Goals as goal

pub returns-then-is_new : goal.returns-then-is_new
returns-then-is_new c =
    let blocks = blocks_of (rules_of c.args.rules.now) in
    let k = c.args.number in
    sym (new_mate blocks k c.args.next (block_at (slice_get blocks k)) c.requires refl
    (sym c.is_new.ensures ∙ c.if-is_new.true))

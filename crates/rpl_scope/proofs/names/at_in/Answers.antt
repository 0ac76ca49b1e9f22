use Rattle.std.proofs.Common.{◌+◌, ◌-◌, arith, sym, ap, drop, length, ◌∙◌}
use Rattle.std.specs.Prelude.{slice_get}
use Rattle.rpl_scope.specs.inside.Held.{held}
use Rattle.rpl_scope.proofs.SharedNames.{held_front, nth_first, nth_none, nth_past}
use Rattle.rpl_scope.proofs.names.at_in.Goals as goal

pub returns-in-Some : goal.returns-in-Some
returns-in-Some c =
    let ts = c.args.tables.now in
    let t = c.table-item.result in
    let k = c.loop-table.table-index in
    let i = c.loop-table.left in
    sym (nth_first t.value (held (drop (k + 1) ts)) i _ (ap (λ l. slice_get l i) (sym c.deref.ensures)
    ∙ sym c.in-Some.ensures.is))
    ∙ ap (λ l. slice_get l i) (sym (held_front ts k t c.loop-table-test.true c.table-item.is)) ∙ c.loop-table.invariant

pub overflow_sub-left : goal.overflow_sub-left
overflow_sub-left c =
    let none = nth_none c.deref.result.now c.loop-table.left (sym c.in-None.ensures.is) in
    let same = c.deref-in-None.ensures ∙ sym c.deref.ensures in
    omega (arith, none, c.len-left.ensures, ap length same)

pub loop-table-preserved : goal.loop-table-preserved
loop-table-preserved c =
    let ts = c.args.tables.now in
    let t = c.table-item.result in
    let k = c.loop-table.table-index in
    let i = c.loop-table.left in
    let rest = held (drop (k + 1) ts) in
    ap (λ m. slice_get rest (i - m)) (c.len-left.ensures ∙ ap length c.deref-in-None.ensures)
    ∙ sym (nth_past t.value rest i (ap (λ l. slice_get l i) (sym c.deref.ensures) ∙ sym c.in-None.ensures.is))
    ∙ ap (λ l. slice_get l i) (sym (held_front ts k t c.loop-table-test.true c.table-item.is)) ∙ c.loop-table.invariant

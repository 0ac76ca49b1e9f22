use Rattle.std.proofs.Common.{◌≡◌, ◌++◌, ◌+◌, sym, ap, subst, ◌∙◌, OnOk}
use Rattle.std.specs.Prelude.{nat_lt}
use Rattle.rpl_syntax.specs.View.{expr_of, exprs_all}
use Rattle.rpl_syntax.specs.Printed.{printed, items_printed, parts_printed}
use Rattle.rpl_syntax.specs.inside.Pieces.{item_of_group, part_of_choice}
use Rattle.rpl_syntax.proofs.Rows.{cooked_view, raw_view, choice_view}
use Rattle.rpl_syntax.proofs.Remaining.{items_step, parts_step}
use Rattle.rpl_syntax.proofs.printer.Printer.+print.Goals as goal

pub expression-returns-in-Cooked : goal.expression-returns-in-Cooked
expression-returns-in-Cooked t c =
    subst (λ x. OnOk c.group.result (c.group.new.self ≡ c.args.self.now ++ x))
    (sym (ap (λ e. printed (expr_of e)) c.in-Cooked.is ∙ ap printed (cooked_view c.in-Cooked.items))) c.group.ensures

pub expression-returns-in-Raw : goal.expression-returns-in-Raw
expression-returns-in-Raw t c =
    subst (λ x. OnOk c.group-in-Raw.result (c.group-in-Raw.new.self ≡ c.args.self.now ++ x))
    (sym (ap (λ e. printed (expr_of e)) c.in-Raw.is ∙ ap printed (raw_view c.in-Raw.items))) c.group-in-Raw.ensures

pub expression-returns-in-Choice : goal.expression-returns-in-Choice
expression-returns-in-Choice t c =
    subst (λ x. OnOk c.parts.result (c.parts.new.self ≡ c.args.self.now ++ x))
    (sym (ap (λ e. printed (expr_of e)) c.in-Choice.is ∙ ap printed (choice_view c.in-Choice.parts))) c.parts.ensures

pub items-loop-index-preserved : goal.items-loop-index-preserved
items-loop-index-preserved t c =
    let ps = c.deref-item-items.result.now in
    let i = c.loop-index.index in
    let p = c.item-item.result in
    let count = c.len-count.ensures ∙ sym c.deref-item-items.ensures.len in
    items_step c.loop-index.self c.item_of_group.new.self (c.args.self.now ++ items_printed (exprs_all ps)) ps i p
    c.loop-index-test.true c.item-item.is
    (c.in_ok-item_of_group.ensures ∙ ap (λ n. c.loop-index.self ++ item_of_group (nat_lt (i + 1) n) (expr_of p)) count)
    c.loop-index.invariant

pub parts-loop-index-preserved : goal.parts-loop-index-preserved
parts-loop-index-preserved t c =
    let ps = c.deref-part-items.result.now in
    let i = c.loop-index.index in
    let p = c.part-item.result in
    let count = c.len-count.ensures ∙ sym c.deref-part-items.ensures.len in
    parts_step c.loop-index.self c.part_of_choice.new.self (c.args.self.now ++ parts_printed (exprs_all ps)) ps i p
    c.loop-index-test.true c.part-item.is
    (c.in_ok-part_of_choice.ensures
    ∙ ap (λ n. c.loop-index.self ++ part_of_choice (nat_lt (i + 1) n) (expr_of p)) count) c.loop-index.invariant

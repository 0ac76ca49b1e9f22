use Rattle.std.proofs.Common.{◌≡◌, take, get_or, length, sym, ap, ◌∙◌, ◌<◌}
use Rattle.std.proofs.lemmas.List.{take_more}
use Rattle.rpl_syntax.specs.Expression as M
use Rattle.rpl_syntax.specs.View.{expr_of, exprs_all, listed}
use Rattle.rpl_syntax.proofs.Rows.{cooked_view, raw_view, choice_view, exprs_more}
use Rattle.rpl_syntax.proofs.expr.+copy.Goals as goal

pub Expr::copy-returns-in_ok-copy-in-Cooked : goal.Expr::copy-returns-in_ok-copy-in-Cooked
Expr::copy-returns-in_ok-copy-in-Cooked t c =
    cooked_view c.in_ok-copy-in-Cooked.field-0 ∙ ap M.Cooked c.in_ok-copy-in-Cooked.ensures
    ∙ sym (ap expr_of c.in-Cooked.is ∙ cooked_view c.in-Cooked.items)

pub Expr::copy-returns-in_ok-copy-in-Raw : goal.Expr::copy-returns-in_ok-copy-in-Raw
Expr::copy-returns-in_ok-copy-in-Raw t c =
    raw_view c.in_ok-copy-in-Raw.field-0 ∙ ap M.Raw c.in_ok-copy-in-Raw.ensures
    ∙ sym (ap expr_of c.in-Raw.is ∙ raw_view c.in-Raw.items)

pub Expr::copy-returns-in_ok-copy-in-Choice : goal.Expr::copy-returns-in_ok-copy-in-Choice
Expr::copy-returns-in_ok-copy-in-Choice t c =
    choice_view c.in_ok-copy-in-Choice.field-0 ∙ ap M.Choice c.in_ok-copy-in-Choice.ensures
    ∙ sym (ap expr_of c.in-Choice.is ∙ choice_view c.in-Choice.parts)

pub Exprs::copy-loop-part-preserved : goal.Exprs::copy-loop-part-preserved
Exprs::copy-loop-part-preserved t c =
    let all = listed c.args.self.now in
    let i = c.loop-part.part-index in
    let part = c.part-item.result in
    let same : part ≡ get_or all i part = c.part-item.is
    ∙ ap (λ ps. get_or ps i part) c.deref-part-items.ensures.value in
    let inside : i < length all = rw (← c.deref-part-items.ensures.value) c.loop-part-test.true in
    let last = exprs_more (listed c.loop-part.copies) (take i all) c.in_ok-copy.field-0 (get_or all i part)
    c.loop-part.invariant (c.in_ok-copy.ensures ∙ ap expr_of same) in
    ap exprs_all c.in_ok-push.ensures.ok ∙ last ∙ ap exprs_all (sym (take_more all i part inside))

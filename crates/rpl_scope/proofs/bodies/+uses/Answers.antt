use Rattle.std.proofs.Common.{◌≡◌, ◌++◌, map, sym, ap, ◌∙◌, subst}
use Rattle.std.specs.Prelude.{OnOk}
use Rattle.rpl_syntax.specs.View.{expr_of, exprs_all}
use Rattle.rpl_syntax.proofs.Rows.{cooked_view, raw_view, choice_view}
use Rattle.rpl_scope.specs.Bodies.{uses, uses_all}
use Rattle.rpl_scope.specs.Seen.{use_seen}
use Rattle.rpl_scope.proofs.Gathering.{uses_step, uses_done}
use Rattle.rpl_scope.proofs.bodies.+uses.Goals as goal

pub push_uses-returns-in-Cooked : goal.push_uses-returns-in-Cooked
push_uses-returns-in-Cooked t c =
    subst (λ x. OnOk c.push_all_uses.result (map use_seen c.push_all_uses.new.all.items
    ≡ map use_seen c.args.all.now.items ++ x))
    (ap (λ es. uses_all (exprs_all es)) c.as_slice.ensures
    ∙ sym (ap (λ e. uses (expr_of e)) c.in-Cooked.is ∙ ap uses (cooked_view c.in-Cooked.items)))
    c.push_all_uses.ensures

pub push_uses-returns-in-Raw : goal.push_uses-returns-in-Raw
push_uses-returns-in-Raw t c =
    subst (λ x. OnOk c.push_all_uses-in-Raw.result (map use_seen c.push_all_uses-in-Raw.new.all.items
    ≡ map use_seen c.args.all.now.items ++ x))
    (ap (λ es. uses_all (exprs_all es)) c.as_slice-in-Raw.ensures
    ∙ sym (ap (λ e. uses (expr_of e)) c.in-Raw.is ∙ ap uses (raw_view c.in-Raw.items))) c.push_all_uses-in-Raw.ensures

pub push_uses-returns-in-Choice : goal.push_uses-returns-in-Choice
push_uses-returns-in-Choice t c =
    subst (λ x. OnOk c.push_all_uses-in-Choice.result (map use_seen c.push_all_uses-in-Choice.new.all.items
    ≡ map use_seen c.args.all.now.items ++ x))
    (ap (λ es. uses_all (exprs_all es)) c.as_slice-in-Choice.ensures
    ∙ sym (ap (λ e. uses (expr_of e)) c.in-Choice.is ∙ ap uses (choice_view c.in-Choice.parts)))
    c.push_all_uses-in-Choice.ensures

pub push_all_uses-loop-e-preserved : goal.push_all_uses-loop-e-preserved
push_all_uses-loop-e-preserved t c =
    uses_step (map use_seen c.loop-e.all.items) (map use_seen c.push_uses.new.all.items) _ c.args.es.now
    c.loop-e.e-index c.e-item.result c.loop-e-test.true c.e-item.is c.in_ok-push_uses.ensures c.loop-e.invariant

pub push_all_uses-returns : goal.push_all_uses-returns
push_all_uses-returns t c =
    uses_done (map use_seen c.loop-e.all.items) _ c.args.es.now c.loop-e.e-index c.loop-e-test.false c.loop-e.invariant

use Rattle.std.proofs.Common.{◌≡◌, ◌++◌, map, sym, ap, ◌∙◌, subst}
use Rattle.std.specs.Prelude.{OnOk}
use Rattle.rpl_syntax.specs.View.{expr_of, exprs_all}
use Rattle.rpl_syntax.proofs.Rows.{cooked_view, raw_view, choice_view}
use Rattle.rpl_scope.specs.Bodies.{names, names_all}
use Rattle.rpl_scope.proofs.Gathering.{names_step, names_done}
use Rattle.rpl_scope.proofs.bodies.+names.Goals as goal

pub push_names-returns-in-Cooked : goal.push_names-returns-in-Cooked
push_names-returns-in-Cooked t c =
    subst (λ x. OnOk c.push_all_names.result (map (λ q. q.now) c.push_all_names.new.all.items
    ≡ map (λ q. q.now) c.args.all.now.items ++ x))
    (ap (λ es. names_all (exprs_all es)) c.as_slice.ensures
    ∙ sym (ap (λ e. names (expr_of e)) c.in-Cooked.is ∙ ap names (cooked_view c.in-Cooked.items)))
    c.push_all_names.ensures

pub push_names-returns-in-Raw : goal.push_names-returns-in-Raw
push_names-returns-in-Raw t c =
    subst (λ x. OnOk c.push_all_names-in-Raw.result (map (λ q. q.now) c.push_all_names-in-Raw.new.all.items
    ≡ map (λ q. q.now) c.args.all.now.items ++ x))
    (ap (λ es. names_all (exprs_all es)) c.as_slice-in-Raw.ensures
    ∙ sym (ap (λ e. names (expr_of e)) c.in-Raw.is ∙ ap names (raw_view c.in-Raw.items)))
    c.push_all_names-in-Raw.ensures

pub push_names-returns-in-Choice : goal.push_names-returns-in-Choice
push_names-returns-in-Choice t c =
    subst (λ x. OnOk c.push_all_names-in-Choice.result (map (λ q. q.now) c.push_all_names-in-Choice.new.all.items
    ≡ map (λ q. q.now) c.args.all.now.items ++ x))
    (ap (λ es. names_all (exprs_all es)) c.as_slice-in-Choice.ensures
    ∙ sym (ap (λ e. names (expr_of e)) c.in-Choice.is ∙ ap names (choice_view c.in-Choice.parts)))
    c.push_all_names-in-Choice.ensures

pub push_all_names-loop-e-preserved : goal.push_all_names-loop-e-preserved
push_all_names-loop-e-preserved t c =
    names_step (map (λ q. q.now) c.loop-e.all.items) (map (λ q. q.now) c.push_names.new.all.items) _ c.args.es.now
    c.loop-e.e-index c.e-item.result c.loop-e-test.true c.e-item.is c.in_ok-push_names.ensures c.loop-e.invariant

pub push_all_names-returns : goal.push_all_names-returns
push_all_names-returns t c =
    names_done (map (λ q. q.now) c.loop-e.all.items) _ c.args.es.now c.loop-e.e-index c.loop-e-test.false
    c.loop-e.invariant

use Rattle.std.proofs.Common.{◌≡◌, ℕ, List, None, ap, refl, subst}
use Rattle.std.specs.Prelude.{Ok, slice_get}
use Rattle.rpl_syntax.specs.Expression.{Expr}
use Rattle.rpl_syntax.specs.View.{expr_of}
use Rattle.rpl_package.specs.Asking.{at_once, and_then}
use Rattle.rpl_names.specs.Goals.{pattern_file}
use Rattle.rpl_names.specs.Loading.{world}
use Rattle.rpl_names.specs.Patterns.{enter_pattern, pattern_fault}
use Rattle.rpl_names.specs.Stocks.{stock_seen}
use Rattle.rpl_package.proofs.Outcomes.{comes_lead, passed_on, same, step_on, step_stops, then_follows, there}
use Rattle.rpl_package.proofs.pattern.enter_pattern.Goals as goal

pub read_goal-requires : goal.read_goal-requires
read_goal-requires g c = c.requires.file

pub returns-in_err-enter_expr-clause-gives : goal.returns-in_err-enter_expr-clause-gives
returns-in_err-enter_expr-clause-gives g c = λ r h told.
    let W = world (g.F.Source.tree c.args.files.now) c.args.importer.folders.now in
    let x = expr_of c.in_ok-e.e in
    let entered = λ (f : List ℕ) (e : Expr). enter_pattern W f c.args.top (stock_seen c.args.stock.now) e in
    let led = then_follows (at_once r) x (λ e. and_then (entered pattern_file e) (λ t. at_once (Ok (e, t))))
    (there x r (c.in_ok-e.ensures.gives r h)) in
    let s = c.in_err-enter_expr.field-0.0 in
    passed_on _ c.from_residual-in_err-enter_expr.result s _ c.from_residual-in_err-enter_expr.ensures.1
    (step_stops g.F.Source.tells (entered c.args.importer.file.now x) (entered pattern_file x)
    (λ t. at_once (Ok (x, t))) _ (same _ _ (ap (λ f. entered f x) c.requires.file)) led told s
    c.in_err-enter_expr.ensures.gives)

pub returns-clause-right : goal.returns-clause-right
returns-clause-right g c =
    let file = c.requires.file in
    let S = stock_seen c.enter_expr.new.stock in
    subst (λ f. pattern_fault f (expr_of c.in_ok-e.e) S.modules (slice_get S.modules c.args.top) ≡ None) file
    c.in_ok-enter_expr.ensures.right

pub returns-clause-gives : goal.returns-clause-gives
returns-clause-gives g c = λ r h told.
    let W = world (g.F.Source.tree c.args.files.now) c.args.importer.folders.now in
    let x = expr_of c.in_ok-e.e in
    let entered = λ (f : List ℕ) (e : Expr). enter_pattern W f c.args.top (stock_seen c.args.stock.now) e in
    let led = then_follows (at_once r) x (λ e. and_then (entered pattern_file e) (λ t. at_once (Ok (e, t))))
    (there x r (c.in_ok-e.ensures.gives r h)) in
    comes_lead _ _ _ (step_on g.F.Source.tells (entered c.args.importer.file.now x) (entered pattern_file x)
    (λ t. at_once (Ok (x, t))) _ (same _ _ (ap (λ f. entered f x) c.requires.file)) led told _
    c.in_ok-enter_expr.ensures.gives) (there _ _ refl)

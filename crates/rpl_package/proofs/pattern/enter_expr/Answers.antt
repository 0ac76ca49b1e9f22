use Rattle.std.proofs.Common.{◌≡◌, ◌++◌, Option, None, Some, map, refl, ap, ◌∙◌}
use Rattle.std.specs.Prelude.{Ok}
use Rattle.rpl_syntax.specs.View.{expr_of}
use Rattle.rpl_scope.specs.Bodies.{names}
use Rattle.rpl_scope.specs.Faults.{unless}
use Rattle.rpl_scope.specs.declared.fault.LoadFault.{LoadFault}
use Rattle.rpl_package.specs.Asking.{and_then, each_in_turn}
use Rattle.rpl_names.specs.Loading.{world}
use Rattle.rpl_names.specs.Patterns.{checked, pattern_name}
use Rattle.rpl_names.specs.Stocks.{stock_seen}
use Rattle.rpl_package.proofs.Outcomes.{checks_on, comes_lead, if_ok, passed_on, same, may_lead, may_then, then_follows}
use Rattle.rpl_package.proofs.Outcomes.{told_lead}
use Rattle.rpl_package.proofs.Outcomes.{told_then, walks_lead}
use Rattle.rpl_package.proofs.pattern.enter_expr.Goals as goal

none_found : (o : Option LoadFault) → unless o (tt {0}) ≡ Ok (tt {0}) → o ≡ None
none_found None h = refl
none_found (Some f) h = absurd (cc)

pub returns-clause-right : goal.returns-clause-right
returns-clause-right g c = if_ok c.check_pattern.result _ (λ x is. none_found _ (rw is at c.check_pattern.ensures))

pub returns-in_err-enter_names-clause-gives : goal.returns-in_err-enter_names-clause-gives
returns-in_err-enter_names-clause-gives g c = λ told.
    let K = g.F.Source.tells in
    let x = expr_of c.args.e.now in
    let f = c.args.importer.file.now in
    let i = c.args.top in
    let S = stock_seen c.args.stock.now in
    let step = pattern_name (world (g.F.Source.tree c.args.files.now) c.args.importer.folders.now) f i in
    let each = each_in_turn step (names x) S in
    let all = ap (map (λ q. q.now)) c.deref.ensures.value ∙ c.in_ok-push_names.ensures
    ∙ ap (λ l. map (λ q. q.now) l ++ names x) c.new-all.ensures.items in
    let moved = same _ _ (ap (λ l. each_in_turn step l S) all) in
    let s = c.in_err-enter_names.field-0.0 in
    passed_on _ c.from_residual-in_err-enter_names.result s _ c.from_residual-in_err-enter_names.ensures.1
    (may_then s each (checked f x i)
    (may_lead s _ _ moved
    (c.in_err-enter_names.ensures.gives (told_lead K _ each moved (told_then K each (checked f x i) told)))))

pub returns-clause-gives : goal.returns-clause-gives
returns-clause-gives g c = λ told.
    let K = g.F.Source.tells in
    let x = expr_of c.args.e.now in
    let f = c.args.importer.file.now in
    let i = c.args.top in
    let S = stock_seen c.args.stock.now in
    let U = stock_seen c.enter_names.new.stock in
    let step = pattern_name (world (g.F.Source.tree c.args.files.now) c.args.importer.folders.now) f i in
    let each = each_in_turn step (names x) S in
    let all = ap (map (λ q. q.now)) c.deref.ensures.value ∙ c.in_ok-push_names.ensures
    ∙ ap (λ l. map (λ q. q.now) l ++ names x) c.new-all.ensures.items in
    let moved = same _ _ (ap (λ l. each_in_turn step l S) all) in
    let made = comes_lead _ _ each moved
    (c.in_ok-enter_names.ensures.gives (told_lead K _ each moved (told_then K each (checked f x i) told))) in
    walks_lead _ _ c.check_pattern.result (checked f x i U) (and_then each (checked f x i))
    (then_follows each U (checked f x i) made)
    (checks_on _ U c.check_pattern.result _ c.check_pattern.ensures)

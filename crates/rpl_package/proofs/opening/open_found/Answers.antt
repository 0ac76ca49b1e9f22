use Rattle.std.proofs.Common.{◌≢◌, ◌-◌, refl, sym, subst, arith}
use Rattle.std.proofs.lemmas.Bool.Decides.{nat_tests}
use Rattle.rpl_syntax.specs.Modules.{said}
use Rattle.rpl_scope.specs.declared.fault.Stop.TheVariants.{Memory}
use Rattle.rpl_scope.specs.Faults.{StopIs}
use Rattle.rpl_names.specs.Loading.{world, walk}
use Rattle.rpl_names.specs.Stocks.{state_seen, stock_seen}
use Rattle.rpl_package.specs.inside.Opening.{Begins, imported_head, own_begun}
use Rattle.rpl_package.proofs.Beginning.{begins_by, own_stops}
use Rattle.rpl_package.proofs.Outcomes.{err_passed, may_lead, out_first}
use Rattle.rpl_package.proofs.Walking.{read_leads, unread_stops}
use Rattle.rpl_package.proofs.opening.open_found.Goals as goal

pub returns-in_err-text-clause-stops : goal.returns-in_err-text-clause-stops
returns-in_err-text-clause-stops c =
    let s = c.in_err-text.field-0.0 in
    err_passed _ c.from_residual.result s c.from_residual.ensures.1 (λ bytes r tree asked.
    let W = world tree c.args.walker.now.importer.folders.now in
    let deep : c.args.walker.now.depth ≢ 0 = grind (arith, nat_tests) in
    unread_stops W c.args.walker.now.depth (stock_seen c.args.stock.now) c.args.stock.now.held.items c.args.found.file
    c.args.path.now bytes deep s (c.in_err-text.ensures.gives bytes r))

pub returns-in_err-head-clause-stops : goal.returns-in_err-head-clause-stops
returns-in_err-head-clause-stops c =
    err_passed _ c.from_residual-in_err-head.result Memory c.from_residual-in_err-head.ensures.1
    (λ bytes r tree asked. out_first _)

pub returns-in_err-own-clause-stops : goal.returns-in_err-own-clause-stops
returns-in_err-own-clause-stops c =
    let stop = c.in_err-own.field-0.0 in
    err_passed _ c.from_residual-in_err-own.result stop c.from_residual-in_err-own.ensures.1 (λ bytes r tree asked.
    let d = c.args.walker.now.depth in
    let W = world tree c.args.walker.now.importer.folders.now in
    let deep : d ≢ 0 = grind (arith, nat_tests) in
    let S = stock_seen c.args.stock.now in
    let hs = c.args.stock.now.held.items in
    let f = c.args.found.file in
    let x = said c.in_ok-text.text in
    let h = imported_head x.name c.args.path.now in
    let begun = subst (λ y. StopIs stop (own_begun S hs f y x)) c.in_ok-head.ensures c.in_err-own.ensures.gives in
    may_lead stop _ _ (read_leads W d S hs f c.args.path.now bytes x c.args.path.now h.label deep
    (c.in_ok-text.ensures.gives bytes r) refl refl)
    (own_stops W (walk W (d - 1)) S hs f h x stop begun))

pub returns-clause-begins : goal.returns-clause-begins
returns-clause-begins c =
    let S = stock_seen c.args.stock.now in
    let hs = c.args.stock.now.held.items in
    let path = c.args.path.now in
    let now = c.open_own.new.stock in
    let o = c.in_ok-opened.opened in
    let x = said c.in_ok-text.text in
    let begun = begins_by hs path S x c.args.found.file c.in_ok-head.head now.held.items
    (state_seen now c.in_ok-own.own) c.in_ok-text.ensures.said c.in_ok-head.ensures c.in_ok-own.ensures.gives
    c.in_ok-own.ensures.held in
    subst (λ r. Begins hs path S (said r.text) now.held.items (state_seen now o.own.value))
    (sym c.in_ok-opened.ensures.0)
    (subst (λ m. Begins hs path S x now.held.items (state_seen now m)) (sym c.in_ok-opened.ensures.1) begun)

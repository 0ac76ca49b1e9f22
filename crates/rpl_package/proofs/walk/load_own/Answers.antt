use Rattle.std.proofs.Common.{ap₂, sym}
use Rattle.std.specs.Prelude.{Ok}
use Rattle.rpl_syntax.specs.Modules.{said}
use Rattle.rpl_package.specs.Asking.{at_once}
use Rattle.rpl_names.specs.Loading.{world, walk, own_text, taken_up}
use Rattle.rpl_names.specs.Stocks.{stock_seen, state_seen}
use Rattle.rpl_package.proofs.Beginning.{begun_free, own_stops, own_text_stops, own_text_taken}
use Rattle.rpl_names.proofs.Building.{makes_by}
use Rattle.rpl_package.proofs.Outcomes.{if_ok, passed_on, walks_last, may_then}
use Rattle.rpl_package.proofs.walk.load_own.Goals as goal

pub returns-in_err-own-clause-gives : goal.returns-in_err-own-clause-gives
returns-in_err-own-clause-gives g c = λ told.
    let k = c.args.walker.now in
    let W = world (g.F.Source.tree c.args.files.now) k.importer.folders.now in
    let S = stock_seen c.args.stock.now in
    let hs = c.args.stock.now.held.items in
    let h = c.args.head in
    let s = c.in_err-own.field-0.0 in
    passed_on _ c.from_residual.result s _ c.from_residual.ensures.1
    (may_then s (own_text W (walk W k.depth) S hs k.importer.file.now h.path h.label (said c.args.text.now))
    (λ u. at_once (Ok (taken_up u)))
    (own_stops W (walk W k.depth) S hs k.importer.file.now h (said c.args.text.now) s c.in_err-own.ensures.gives))

pub returns-in_err-load_text-clause-gives : goal.returns-in_err-load_text-clause-gives
returns-in_err-load_text-clause-gives g c = λ told.
    let k = c.args.walker.now in
    let W = world (g.F.Source.tree c.args.files.now) k.importer.folders.now in
    let u = state_seen c.open_own.new.stock c.in_ok-own.own in
    let s = c.in_err-load_text.field-0.0 in
    passed_on _ c.from_residual-in_err-load_text.result s _ c.from_residual-in_err-load_text.ensures.1
    (own_text_stops g.F.Source.tells W (walk W k.depth) (stock_seen c.args.stock.now) c.args.stock.now.held.items
    k.importer.file.now c.args.head (said c.args.text.now) c.open_own.new.stock.held.items u
    c.in_ok-own.ensures.gives c.in_ok-own.ensures.held told s c.in_err-load_text.ensures.gives)

pub returns-clause-gives : goal.returns-clause-gives
returns-clause-gives g c = λ told.
    let k = c.args.walker.now in
    let W = world (g.F.Source.tree c.args.files.now) k.importer.folders.now in
    let u = state_seen c.open_own.new.stock c.in_ok-own.own in
    walks_last _ c.finish.result _ _ c.finish.ensures.memory
    (own_text_taken g.F.Source.tells W (walk W k.depth) (stock_seen c.args.stock.now) c.args.stock.now.held.items
    k.importer.file.now c.args.head (said c.args.text.now) c.open_own.new.stock.held.items u
    c.in_ok-own.ensures.gives c.in_ok-own.ensures.held told _ c.in_ok-load_text.ensures.gives)
    (λ n is. ap₂ (λ n s. (n, s)) (sym (rw is at c.finish.ensures.number)) (sym (rw is at c.finish.ensures.stock)))

pub returns-clause-built : goal.returns-clause-built
returns-clause-built g c =
    let S = stock_seen c.args.stock.now in
    let hs = c.args.stock.now.held.items in
    let h = c.args.head in
    let t = said c.args.text.now in
    let now = c.open_own.new.stock.held.items in
    let u = state_seen c.open_own.new.stock c.in_ok-own.own in
    let v = state_seen c.load_text.new.stock c.load_text.new.own in
    let b = begun_free S hs c.args.walker.now.importer.file.now h t u c.in_ok-own.ensures.gives in
    if_ok c.finish.result _
    (λ n is. (
      v,
      makes_by hs now h.path h.label S u v b.0 c.in_ok-own.ensures.held b.1
          c.in_ok-load_text.ensures.built,
      ap₂ (λ n s. (n, s)) (rw is at c.finish.ensures.number) (rw is at c.finish.ensures.stock),
    ))

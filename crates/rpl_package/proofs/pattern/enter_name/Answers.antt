use Rattle.std.proofs.Common.{ap, sym, subst, ◌∙◌}
use Rattle.std.specs.Prelude.{slice_get}
use Rattle.rpl_scope.specs.Seen.{modules_seen}
use Rattle.rpl_names.specs.Built.{Reaches}
use Rattle.rpl_names.specs.Loading.{world}
use Rattle.rpl_names.specs.Patterns.{needed_at}
use Rattle.rpl_names.specs.Stocks.{stock_seen}
use Rattle.rpl_package.proofs.Bringing.{brought_leads, told_way, unreached}
use Rattle.rpl_names.proofs.Building.{asks_at, puts_on}
use Rattle.rpl_package.proofs.Outcomes.{gives_walks, if_ok, passed_on, walks_lead}
use Rattle.rpl_package.proofs.Placing.{cuts_keeps}
use Rattle.rpl_package.proofs.pattern.enter_name.Goals as goal

pub returns-in_err-number-clause-gives : goal.returns-in_err-number-clause-gives
returns-in_err-number-clause-gives g c = λ told.
    let W = world (g.F.Source.tree c.args.files.now) c.args.importer.folders.now in
    let asked = ap (λ l. needed_at c.args.name.now (slice_get (modules_seen l) c.args.top)) (sym c.deref.ensures.value)
    ∙ sym c.in_ok-asked.ensures ∙ c.in-Some.is in
    let way = told_way W c.args.importer.file.now c.args.top (stock_seen c.args.stock.now) c.args.name.now
    c.in-Some.import _ asked c.requires.idle g.F.Source.tells told in
    let s = c.in_err-number.field-0.0 in
    passed_on _ c.from_residual-in_err-number.result s _ c.from_residual-in_err-number.ensures.1
    (unreached W c.args.importer.file.now c.args.top (stock_seen c.args.stock.now) c.args.name.now c.in-Some.import _
    asked c.requires.idle s (c.in_err-number.ensures.gives way))

pub returns-clause-gives : goal.returns-clause-gives
returns-clause-gives g c = λ told.
    let W = world (g.F.Source.tree c.args.files.now) c.args.importer.folders.now in
    let asked = ap (λ l. needed_at c.args.name.now (slice_get (modules_seen l) c.args.top)) (sym c.deref.ensures.value)
    ∙ sym c.in_ok-asked.ensures ∙ c.in-Some.is in
    let way = told_way W c.args.importer.file.now c.args.top (stock_seen c.args.stock.now) c.args.name.now
    c.in-Some.import _ asked c.requires.idle g.F.Source.tells told in
    walks_lead _ _ c.put.result _ _ (brought_leads W c.args.importer.file.now c.args.top (stock_seen c.args.stock.now)
    c.args.name.now c.in-Some.import _ asked c.requires.idle _ (c.in_ok-number.ensures.gives way))
    (gives_walks _ _ c.put.result _ c.put.ensures.gives)

pub returns-in_err-number-clause-kept : goal.returns-in_err-number-clause-kept
returns-in_err-number-clause-kept g c =
    λ a h. cuts_keeps c.args.top a (stock_seen c.args.stock.now) (stock_seen c.load_import.new.stock) h
    c.in_err-number.ensures.kept

pub returns-clause-kept : goal.returns-clause-kept
returns-clause-kept g c =
    λ a h. c.put.ensures.kept a
    (cuts_keeps c.args.top a (stock_seen c.args.stock.now) (stock_seen c.load_import.new.stock) h
    c.in_ok-number.ensures.kept)

pub returns-clause-built : goal.returns-clause-built
returns-clause-built g c =
    let S = stock_seen c.args.stock.now in
    let U = stock_seen c.load_import.new.stock in
    let wants = ap (λ l. needed_at c.args.name.now (slice_get (modules_seen l) c.args.top)) (sym c.deref.ensures.value)
    ∙ sym c.in_ok-asked.ensures ∙ c.in-Some.is in
    if_ok c.put.result _ (λ x is. puts_on c.args.top S (stock_seen c.put.new.stock) U c.in_ok-number.number
    c.args.importer.file.now c.in-Some.import
    (asks_at c.args.name.now _ c.in-Some.import c.requires.goal wants)
    (subst (λ h. Reaches h c.in-Some.import.path S (c.in_ok-number.number, U)) c.requires.idle
    c.in_ok-number.ensures.built) (rw is at c.put.ensures.gives))

pub load_import-requires : goal.load_import-requires
load_import-requires g c =
    let wants = ap (λ l. needed_at c.args.name.now (slice_get (modules_seen l) c.args.top)) (sym c.deref.ensures.value)
    ∙ sym c.in_ok-asked.ensures ∙ c.in-Some.is in
    record { asked = asks_at c.args.name.now _ c.in-Some.import c.requires.goal wants }

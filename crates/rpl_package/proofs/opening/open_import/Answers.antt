use Rattle.std.proofs.Common.{◌≡◌, ◌+◌, length, true, ap, sym, subst, ◌∙◌}
use Rattle.std.specs.Prelude.{nat_lt, Ok, Some}
use Rattle.std.proofs.lemmas.List.{length-map}
use Rattle.rpl_syntax.specs.Modules.{said}
use Rattle.rpl_scope.specs.Seen.{module_seen}
use Rattle.rpl_names.specs.Loading.{walk, world}
use Rattle.rpl_names.specs.Stocks.{stock_seen, state_seen}
use Rattle.rpl_package.proofs.Beginning.{import_goes}
use Rattle.rpl_package.proofs.Outcomes.{err_leads, if_ok}
use Rattle.rpl_package.proofs.Walking.{reach_stopped}
use Rattle.rpl_package.proofs.opening.open_import.Goals as goal

pub returns-clause-goes : goal.returns-clause-goes
returns-clause-goes g c = λ told. if_ok c.open_found.result _ (λ o is.
    let k = c.args.walker.now in
    let W = world (g.F.Source.tree c.args.files.now) k.importer.folders.now in
    let S = stock_seen c.args.stock.now in
    let hs = c.args.stock.now.held.items in
    let file = rw is at c.open_found.ensures.file in
    let said_read = rw is at c.open_found.ensures.read in
    let deep = rw is at c.open_found.ensures.deep in
    let begins = rw is at c.open_found.ensures.begins in
    let found = c.in_ok-found.ensures.found told in
    let bytes = found.0 in
    let there = found.1 ∙ ap (λ x. Some (x, bytes)) (sym file) in
    let read = subst (λ x. W.text x bytes ≡ Ok (said o.read.value.text)) (sym file) (said_read bytes found.2) in
    let count : length S.modules ≡ length c.args.stock.now.modules.items =
    length-map c.args.stock.now.modules.items module_seen in
    let room = subst (λ n. nat_lt (n + length hs) 1024 ≡ true) (sym count) c.in_ok-found.ensures.room in
    import_goes W k.depth hs k.importer.file.now c.args.import.now S o.read.value.file bytes (said o.read.value.text)
    c.open_found.new.stock.held.items (state_seen c.open_found.new.stock o.own.value)
    c.requires.free c.requires.new there room deep read begins (c.in_ok-found.ensures.asked told))

pub returns-clause-stops : goal.returns-clause-stops
returns-clause-stops g c = λ told.
    let k = c.args.walker.now in
    let tree = g.F.Source.tree c.args.files.now in
    let W = world tree k.importer.folders.now in
    let S = stock_seen c.args.stock.now in
    let hs = c.args.stock.now.held.items in
    let found = c.in_ok-found.ensures.found told in
    let bytes = found.0 in
    let count : length S.modules ≡ length c.args.stock.now.modules.items =
    length-map c.args.stock.now.modules.items module_seen in
    let room = subst (λ n. nat_lt (n + length hs) 1024 ≡ true) (sym count) c.in_ok-found.ensures.room in
    let asked = c.in_ok-found.ensures.asked told in
    err_leads c.open_found.result _ _ c.open_found.ensures.stops (λ s stops.
    reach_stopped W (walk W k.depth) hs k.importer.file.now c.args.import.now S c.requires.free c.requires.new s asked
    c.in_ok-found.found.file bytes found.1 room (stops bytes found.2 tree (g.F.Source.asked c.find_import.new.files)))

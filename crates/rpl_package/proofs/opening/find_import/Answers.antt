use Rattle.rpl_names.specs.Loading.{world, walk}
use Rattle.rpl_names.specs.Stocks.{stock_seen}
use Rattle.rpl_package.proofs.Outcomes.{err_passed}
use Rattle.rpl_package.proofs.Walking.{reach_unread}
use Rattle.rpl_package.proofs.opening.find_import.Goals as goal

pub returns-in_err-found-clause-stops : goal.returns-in_err-found-clause-stops
returns-in_err-found-clause-stops g c = λ told.
    let i = c.args.walker.now.importer in
    let W = world (g.F.Source.tree c.args.files.now) i.folders.now in
    let s = c.in_err-found.field-0.0 in
    err_passed _ c.from_residual.result s c.from_residual.ensures.1
    (reach_unread W (walk W c.args.walker.now.depth) c.args.stock.now.held.items i.file.now c.args.import.now
    (stock_seen c.args.stock.now) c.requires.free c.requires.new s (c.in_err-found.ensures.asked told))

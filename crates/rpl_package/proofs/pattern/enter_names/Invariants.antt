use Rattle.std.proofs.Common.{◌≡◌, [], map, drop}
use Rattle.std.specs.Prelude.{Ok}
use Rattle.rpl_package.specs.Asking.{IsTold, each_in_turn}
use Rattle.rpl_names.specs.Built.{StaysBuilt}
use Rattle.rpl_names.specs.Loading as L
use Rattle.rpl_names.specs.Loading.{world}
use Rattle.rpl_package.specs.inside.Marks.{CutsTo}
use Rattle.rpl_names.specs.Patterns.{pattern_name}
use Rattle.rpl_names.specs.Stocks.{stock_seen}
use Rattle.rpl_package.specs.inside.Leaving.{LeavesFiles}
use Rattle.rpl_package.proofs.Outcomes.{Follows}
use Rattle.rpl_package.proofs.pattern.enter_names.Given as goal

abbrev pub invariant-loop-name : goal.invariant-loop-name
invariant-loop-name g l =
    record {
      files : LeavesFiles g.F.Source (Ok (tt {0})) l.fn.files l.files;
      held : l.stock.held.items ≡ [];
      kept : (a : L.Stock) → CutsTo l.top a (stock_seen l.fn.stock) → CutsTo l.top a (stock_seen l.stock);
      built : StaysBuilt l.top (stock_seen l.fn.stock) (stock_seen l.stock);
      left : IsTold g.F.Source.tells
          (each_in_turn (pattern_name (world (g.F.Source.tree l.fn.files) l.importer.folders.now) l.importer.file.now
          l.top) (map (λ q. q.now) l.all) (stock_seen l.fn.stock)).asked → Follows (g.F.Source.asked l.files)
          (g.F.Source.asked l.fn.files)
          (each_in_turn (pattern_name (world (g.F.Source.tree l.fn.files) l.importer.folders.now) l.importer.file.now
          l.top) (map (λ q. q.now) (drop l.name-index l.all)) (stock_seen l.stock))
          (each_in_turn (pattern_name (world (g.F.Source.tree l.fn.files) l.importer.folders.now) l.importer.file.now
          l.top) (map (λ q. q.now) l.all) (stock_seen l.fn.stock));
    }

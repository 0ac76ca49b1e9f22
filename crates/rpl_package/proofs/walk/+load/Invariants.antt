use Rattle.std.proofs.Common.{◌≡◌, ◌+◌, ◌*◌, drop}
use Rattle.std.specs.Prelude.{Ok}
use Rattle.std.specs.List.{All}
use Rattle.rpl_scope.specs.Seen.{module_seen, modules_seen}
use Rattle.rpl_scope.specs.Taken.{HasAll}
use Rattle.rpl_package.specs.Asking.{IsTold}
use Rattle.rpl_names.specs.Loading.{import_entries}
use Rattle.rpl_names.specs.Built.{Becomes}
use Rattle.rpl_names.specs.Stocks.{stock_seen, state_seen}
use Rattle.rpl_package.specs.inside.Following.{Follows}
use Rattle.rpl_package.specs.inside.Kept.{Keeps}
use Rattle.rpl_package.specs.inside.Leaving.{LeavesFiles}
use Rattle.rpl_package.specs.inside.Opening.{under}
use Rattle.rpl_package.proofs.walk.+load.Given as goal

abbrev pub decreases-load_import : goal.decreases-load_import
decreases-load_import g l = 3 * l.walker.now.depth + 0

abbrev pub decreases-enter_imports : goal.decreases-enter_imports
decreases-enter_imports g l = 3 * l.walker.now.depth + 1

abbrev pub decreases-load_text : goal.decreases-load_text
decreases-load_text g l = 3 * l.walker.now.depth + 2

abbrev pub invariant-enter_imports-loop-import : goal.invariant-enter_imports-loop-import
invariant-enter_imports-loop-import g l =
    record {
      files : LeavesFiles g.F.Source (Ok (tt {0})) l.fn.files l.files;
      held : l.stock.held.items ≡ l.fn.stock.held.items;
      kept : Keeps (stock_seen l.fn.stock) (stock_seen l.stock);
      built : Becomes l.fn.stock.held.items (state_seen l.fn.stock l.fn.own) (state_seen l.stock l.own);
      taken : All (HasAll (modules_seen l.stock.modules.items) (module_seen l.own)) l.taken.items;
      left : IsTold g.F.Source.tells (under import_entries (g.F.Source.tree l.fn.files) l.walker l.fn.stock.held.items
          l.imports (state_seen l.fn.stock l.fn.own)).asked → Follows (g.F.Source.asked l.files)
          (g.F.Source.asked l.fn.files)
          (under import_entries (g.F.Source.tree l.fn.files) l.walker l.fn.stock.held.items
          (drop l.import-index l.imports) (state_seen l.stock l.own))
          (under import_entries (g.F.Source.tree l.fn.files) l.walker l.fn.stock.held.items l.imports
          (state_seen l.fn.stock l.fn.own));
    }

use Rattle.std.proofs.Common.{◌≡◌, ◌≤◌, drop, length, [], ◌∷◌}
use Rattle.std.specs.Prelude.{Ok}
use Rattle.rpl_package.specs.Asking.{IsTold, each_in_turn}
use Rattle.rpl_names.specs.Loading.{world}
use Rattle.rpl_names.specs.Built.{Becomes}
use Rattle.rpl_names.specs.Roots.{AreWithin, counted, root_entry, top_head}
use Rattle.rpl_names.specs.Stocks.{state_seen}
use Rattle.rpl_package.specs.inside.Leaving.{LeavesFiles}
use Rattle.rpl_package.specs.inside.Rooting.{roots_seen}
use Rattle.rpl_package.proofs.Outcomes.{Follows}
use Rattle.rpl_package.proofs.rooted.enter_roots.Given as goal

abbrev pub invariant-loop-root : goal.invariant-loop-root
invariant-loop-root g l =
    record {
      files : LeavesFiles g.F.Source (Ok (tt {0})) l.fn.files l.files;
      held : l.state.stock.held.items ≡ l.fn.state.stock.held.items;
      few : l.given ≤ l.root-index;
      many : length l.into.items ≡ l.root-index;
      within : AreWithin l.into.items (length l.state.stock.modules.items);
      built : Becomes (top_head ∷ []) (state_seen l.fn.state.stock l.fn.state.own)
          (state_seen l.state.stock l.state.own);
      left : IsTold g.F.Source.tells (each_in_turn (root_entry (world (g.F.Source.tree l.fn.files) l.folders))
          (counted 0 l.roots) (roots_seen [] l.fn.state)).asked
          → Follows (g.F.Source.asked l.files) (g.F.Source.asked l.fn.files)
          (each_in_turn (root_entry (world (g.F.Source.tree l.fn.files) l.folders))
          (counted l.given (drop l.root-index l.roots)) (roots_seen l.into.items l.state))
          (each_in_turn (root_entry (world (g.F.Source.tree l.fn.files) l.folders)) (counted 0 l.roots)
          (roots_seen [] l.fn.state));
    }

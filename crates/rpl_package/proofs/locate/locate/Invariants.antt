use Rattle.std.proofs.Common.{drop}
use Rattle.std.specs.Prelude.{Ok}
use Rattle.rpl_package.specs.Asking.{IsTold}
use Rattle.rpl_names.specs.Loading.{paths_tried, search, world}
use Rattle.rpl_package.specs.inside.Following.{Follows}
use Rattle.rpl_package.specs.inside.Leaving.{LeavesFiles}
use Rattle.rpl_package.proofs.locate.locate.Given as goal

abbrev pub invariant-loop-folder : goal.invariant-loop-folder
invariant-loop-folder g l =
    record {
      files : LeavesFiles g.F.Source (Ok (tt {0})) l.fn.files l.files;
      left : IsTold g.F.Source.tells (paths_tried (g.F.Source.tree l.fn.files) l.folders l.path)
          → Follows (g.F.Source.asked l.files) (g.F.Source.asked l.fn.files)
          (search (world (g.F.Source.tree l.fn.files) (drop l.folder-index l.folders)) l.path)
          (search (world (g.F.Source.tree l.fn.files) l.folders) l.path);
    }

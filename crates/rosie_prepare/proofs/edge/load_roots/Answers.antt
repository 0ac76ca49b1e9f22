use Rattle.rosie_prepare.proofs.Loads.{fault_asked, loaded_asked}
use Rattle.rpl_names.specs.Loading.{world}
use Rattle.rpl_names.specs.Roots.{load}
use Rattle.rosie_prepare.proofs.edge.load_roots.Goals as goal

pub returns-in-Ok-clause-asked : goal.returns-in-Ok-clause-asked
returns-in-Ok-clause-asked g c = λ told.
    loaded_asked _ _ c.in-Ok.packages
    (load (world (g.F.Source.tree c.args.files.now) c.args.folders.now) c.args.roots.now) (c.in-Ok.ensures.asked told)

pub returns-in-Err-clause-asked : goal.returns-in-Err-clause-asked
returns-in-Err-clause-asked g c = λ told.
    fault_asked _ _ c.in-Err.fault c.of_load.result
    (load (world (g.F.Source.tree c.args.files.now) c.args.folders.now) c.args.roots.now) c.of_load.ensures
    (c.in-Err.ensures.asked told)

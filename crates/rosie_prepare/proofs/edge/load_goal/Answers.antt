use Rattle.rosie_prepare.proofs.Loads.{fault_asked, loaded_asked}
use Rattle.rpl_names.specs.Loading.{world}
use Rattle.rpl_names.specs.Patterns.{load_pattern}
use Rattle.rpl_names.specs.Sets.{set_seen}
use Rattle.rosie_prepare.proofs.edge.load_goal.Goals as goal

pub returns-in-Ok-clause-asked : goal.returns-in-Ok-clause-asked
returns-in-Ok-clause-asked g c = λ parse reads told.
    loaded_asked _ _ c.in-Ok.expr
    (load_pattern (world (g.F.Source.tree c.args.files.now) c.args.request.now.folders.now)
    (set_seen c.args.packages.now) parse) (c.in-Ok.ensures.asked parse reads told)

pub returns-in-Err-clause-asked : goal.returns-in-Err-clause-asked
returns-in-Err-clause-asked g c = λ parse reads told.
    fault_asked _ _ c.in-Err.fault c.of_load.result
    (load_pattern (world (g.F.Source.tree c.args.files.now) c.args.request.now.folders.now)
    (set_seen c.args.packages.now) parse) c.of_load.ensures (c.in-Err.ensures.asked parse reads told)

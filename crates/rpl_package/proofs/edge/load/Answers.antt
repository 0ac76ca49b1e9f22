use Rattle.std.proofs.Common.{ap₂}
use Rattle.rpl_names.specs.Loading.{world}
use Rattle.rpl_names.specs.Roots.{load}
use Rattle.rpl_names.specs.Sets.{set_seen}
use Rattle.rpl_package.specs.inside.Stopping.{Comes, MayStop}
use Rattle.rpl_package.proofs.Public.{ok_asked, stop_asked, stop_explains, told_same}
use Rattle.rpl_package.proofs.edge.load.Goals as goal

pub returns-in-Ok-clause-gives : goal.returns-in-Ok-clause-gives
returns-in-Ok-clause-gives g c = λ told.
    let e = ap₂ (λ ds rs. load (world (g.F.Source.tree c.args.files.now) ds) rs) c.as_slice.ensures
    c.as_slice-2.ensures in
    (told_same g.F.Source.tells (Comes (g.F.Source.asked c.args.files.now) (g.F.Source.asked c.load_set.new.files)
    (set_seen c.in-Ok.packages)) _ _ e (c.in-Ok.ensures.gives) told).answer

pub returns-in-Ok-clause-asked : goal.returns-in-Ok-clause-asked
returns-in-Ok-clause-asked g c = λ told.
    let e = ap₂ (λ ds rs. load (world (g.F.Source.tree c.args.files.now) ds) rs) c.as_slice.ensures
    c.as_slice-2.ensures in
    ok_asked c.in-Ok.packages _ _
    (told_same g.F.Source.tells (Comes (g.F.Source.asked c.args.files.now) (g.F.Source.asked c.load_set.new.files)
    (set_seen c.in-Ok.packages)) _ _ e (c.in-Ok.ensures.gives) told)

pub returns-in-Err-clause-gives : goal.returns-in-Err-clause-gives
returns-in-Err-clause-gives g c = λ told.
    let e = ap₂ (λ ds rs. load (world (g.F.Source.tree c.args.files.now) ds) rs) c.as_slice.ensures
    c.as_slice-2.ensures in
    stop_explains c.in-Err.stop _ _ c.fault_of.ensures
    (told_same g.F.Source.tells (MayStop (g.F.Source.asked c.args.files.now) (g.F.Source.asked c.load_set.new.files)
    c.in-Err.stop) _ _ e (c.in-Err.ensures.gives) told)

pub returns-in-Err-clause-asked : goal.returns-in-Err-clause-asked
returns-in-Err-clause-asked g c = λ told.
    let e = ap₂ (λ ds rs. load (world (g.F.Source.tree c.args.files.now) ds) rs) c.as_slice.ensures
    c.as_slice-2.ensures in
    stop_asked (Unit {0}) c.in-Err.stop _ _ c.fault_of.ensures
    (told_same g.F.Source.tells (MayStop (g.F.Source.asked c.args.files.now) (g.F.Source.asked c.load_set.new.files)
    c.in-Err.stop) _ _ e (c.in-Err.ensures.gives) told)

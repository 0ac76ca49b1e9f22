use Rattle.std.proofs.Common.{ap}
use Rattle.rpl_names.specs.Loading.{world}
use Rattle.rpl_names.specs.Patterns.{load_pattern}
use Rattle.rpl_names.specs.Sets.{set_seen}
use Rattle.rpl_syntax.specs.View.{expr_of}
use Rattle.rpl_package.specs.inside.Stopping.{Comes, MayStop}
use Rattle.rpl_package.proofs.Public.{ok_asked, stop_asked, stop_explains, told_same}
use Rattle.rpl_package.proofs.edge.load_pattern.Goals as goal

pub returns-in-Ok-clause-gives : goal.returns-in-Ok-clause-gives
returns-in-Ok-clause-gives g c = λ r h told.
    let e = ap (λ ds. load_pattern (world (g.F.Source.tree c.args.files.now) ds) (set_seen c.args.packages.now) r)
    c.as_slice.ensures in
    (told_same g.F.Source.tells (Comes (g.F.Source.asked c.args.files.now) (g.F.Source.asked c.enter_goal.new.files)
    (expr_of c.in-Ok.e, set_seen c.enter_goal.new.packages)) _ _ e (c.in-Ok.ensures.gives r h) told).answer

pub returns-in-Ok-clause-asked : goal.returns-in-Ok-clause-asked
returns-in-Ok-clause-asked g c = λ r h told.
    let e = ap (λ ds. load_pattern (world (g.F.Source.tree c.args.files.now) ds) (set_seen c.args.packages.now) r)
    c.as_slice.ensures in
    ok_asked c.in-Ok.e _ _
    (told_same g.F.Source.tells (Comes (g.F.Source.asked c.args.files.now) (g.F.Source.asked c.enter_goal.new.files)
    (expr_of c.in-Ok.e, set_seen c.enter_goal.new.packages)) _ _ e (c.in-Ok.ensures.gives r h) told)

pub returns-in-Err-clause-gives : goal.returns-in-Err-clause-gives
returns-in-Err-clause-gives g c = λ r h told.
    let e = ap (λ ds. load_pattern (world (g.F.Source.tree c.args.files.now) ds) (set_seen c.args.packages.now) r)
    c.as_slice.ensures in
    stop_explains c.in-Err.stop _ _ c.fault_of.ensures
    (told_same g.F.Source.tells (MayStop (g.F.Source.asked c.args.files.now) (g.F.Source.asked c.enter_goal.new.files)
    c.in-Err.stop) _ _ e (c.in-Err.ensures.gives r h) told)

pub returns-in-Err-clause-asked : goal.returns-in-Err-clause-asked
returns-in-Err-clause-asked g c = λ r h told.
    let e = ap (λ ds. load_pattern (world (g.F.Source.tree c.args.files.now) ds) (set_seen c.args.packages.now) r)
    c.as_slice.ensures in
    stop_asked (Unit {0}) c.in-Err.stop _ _ c.fault_of.ensures
    (told_same g.F.Source.tells (MayStop (g.F.Source.asked c.args.files.now) (g.F.Source.asked c.enter_goal.new.files)
    c.in-Err.stop) _ _ e (c.in-Err.ensures.gives r h) told)

use Rattle.std.proofs.Common.{◌+◌, map, drop, ap, ◌∙◌, arith}
use Rattle.std.proofs.lemmas.List.{drop_all}
use Rattle.rpl_scope.proofs.Checking.{front}
use Rattle.rpl_names.specs.Built.{InGoal}
use Rattle.rpl_names.specs.Loading.{world}
use Rattle.rpl_names.specs.Patterns.{pattern_name}
use Rattle.rpl_names.specs.Stocks.{stock_seen}
use Rattle.rpl_names.proofs.Building.{one_of}
use Rattle.rpl_package.proofs.Leaving.{after}
use Rattle.rpl_package.proofs.Outcomes.{comes_lead, passed_on, same, may_lead, told_lead, turn_done, turn_on, turn_stop}
use Rattle.rpl_package.proofs.Outcomes.{turn_told}
use Rattle.rpl_package.proofs.pattern.enter_names.Goals as goal

pub returns-in_err-enter_name-clause-gives : goal.returns-in_err-enter_name-clause-gives
returns-in_err-enter_name-clause-gives g c = λ told.
    let ds = c.args.importer.folders.now in
    let f = c.args.importer.file.now in
    let i = c.args.top in
    let q = c.name-item.result in
    let s0 = stock_seen c.loop-name.stock in
    let inv = c.loop-name.invariant in
    let s = c.in_err-enter_name.field-0.0 in
    let K = g.F.Source.tells in
    let step = pattern_name (world (g.F.Source.tree c.args.files.now) ds) f i in
    let at = ap (map (λ x. x.now)) (front c.args.all.now c.loop-name.name-index q c.loop-name-test.true c.name-item.is)
    in
    let moved = same _ _ (ap (λ U. pattern_name (world U ds) f i q.now s0) inv.files.tree) in
    let one = turn_told step _ _ q.now s0 _ at (inv.left told) K told in
    passed_on _ c.from_residual.result s _ c.from_residual.ensures.1
    (turn_stop step _ _ q.now s0 _ at (inv.left told) s
    (may_lead s _ _ moved (c.in_err-enter_name.ensures.gives (told_lead K _ _ moved one))))

pub loop-name-preserved : goal.loop-name-preserved
loop-name-preserved g c =
    let ds = c.args.importer.folders.now in
    let W = world (g.F.Source.tree c.args.files.now) ds in
    let f = c.args.importer.file.now in
    let i = c.args.top in
    let all = c.args.all.now in
    let n = c.loop-name.name-index in
    let q = c.name-item.result in
    let s0 = stock_seen c.loop-name.stock in
    let inv = c.loop-name.invariant in
    record {
      files = after g.F.Source _ _ _ _ _ _ inv.files c.in_ok-enter_name.ensures.files;
      held = c.in_ok-enter_name.ensures.held ∙ inv.held;
      kept = λ a h. c.in_ok-enter_name.ensures.kept a (inv.kept a h);
      built = λ rs h. c.in_ok-enter_name.ensures.built rs (inv.built rs h);
      left = λ told.
          let K = g.F.Source.tells in
          let at = ap (map (λ x. x.now)) (front all n q c.loop-name-test.true c.name-item.is) in
          let moved = same _ _ (ap (λ U. pattern_name (world U ds) f i q.now s0) inv.files.tree) in
          let one = turn_told (pattern_name W f i) (map (λ x. x.now) (drop n all)) (map (λ x. x.now) (drop (n + 1) all))
          q.now s0 _ at (inv.left told) K told in
          turn_on (pattern_name W f i) (map (λ x. x.now) (drop n all)) (map (λ x. x.now) (drop (n + 1) all)) q.now s0 _
          at (inv.left told) (stock_seen c.enter_name.new.stock)
          (comes_lead _ _ _ moved (c.in_ok-enter_name.ensures.gives (told_lead K _ _ moved one)));
    }

pub enter_name-requires-clause-goal : goal.enter_name-requires-clause-goal
enter_name-requires-clause-goal g c =
    one_of c.args.all.now c.loop-name.name-index c.name-item.result (λ q. q.now) InGoal c.loop-name-test.true
    c.name-item.is c.requires.goal

pub returns-clause-gives : goal.returns-clause-gives
returns-clause-gives g c = λ told.
    let W = world (g.F.Source.tree c.args.files.now) c.args.importer.folders.now in
    let l = c.loop-name in
    turn_done (pattern_name W c.args.importer.file.now c.args.top) _ (stock_seen l.stock) _
    (ap (map (λ q. q.now)) (drop_all l.name-index c.args.all.now (omega (arith, c.loop-name-test.false))))
    (l.invariant.left told)

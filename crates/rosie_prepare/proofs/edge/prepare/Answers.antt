use Rattle.std.proofs.Common.{subst}
use Rattle.std.proofs.Math.Logic.{∥∥₁_map}
use Rattle.rosie_prepare.proofs.Loads.{asked_through, due_goal, due_through, passes_asked, pattern_asks}
use Rattle.rosie_prepare.proofs.Loads.{pattern_comes, pattern_stops, resolves_if, roots_ask, roots_stop}
use Rattle.rosie_prepare.specs.Prepared.{GoalPasses}
use Rattle.rosie_prepare.specs.Views.{ready_seen, request_seen}
use Rattle.rpl_names.specs.Sets.{set_seen}
use Rattle.rpl_expand.proofs.Loaded.{patterns_resolve}
use Rattle.rpl_expand.proofs.Merely.{resolves_out}
use Rattle.rpl_syntax.specs.View.{expr_of}
use Rattle.rosie_prepare.proofs.edge.prepare.Goals as goal

pub returns-in_err-packages-clause-prepares : goal.returns-in_err-packages-clause-prepares
returns-in_err-packages-clause-prepares g c = λ asked told r h.
    let w = request_seen c.args.request.now in
    let u = c.in_err-packages.field-0.0 in
    let tree = g.F.Source.tree c.args.files.now in
    due_through ready_seen c.from_residual.result u r c.from_residual.ensures.1
    (due_goal u _ r (roots_stop g.F.Source.tells tree tree w asked r h told u c.in_err-packages.ensures.gives) h.comes)

pub returns-in_err-packages-clause-asked : goal.returns-in_err-packages-clause-asked
returns-in_err-packages-clause-asked g c = λ asked told r h.
    let w = request_seen c.args.request.now in
    let u = c.in_err-packages.field-0.0 in
    let tree = g.F.Source.tree c.args.files.now in
    asked_through _ _ asked c.from_residual.result u c.from_residual.ensures.1
    (roots_ask g.F.Source.tells tree tree w asked r h told _ _ u c.in_err-packages.ensures.gives
    c.in_err-packages.ensures.asked)

pub returns-in_err-expr-clause-prepares : goal.returns-in_err-expr-clause-prepares
returns-in_err-expr-clause-prepares g c = λ asked told r h.
    let w = request_seen c.args.request.now in
    let packages = c.in_ok-packages.ensures in
    let u = c.in_err-expr.field-0.0 in
    due_through ready_seen c.from_residual-in_err-expr.result u r c.from_residual-in_err-expr.ensures.1
    (due_goal u _ r
    (pattern_stops g.F.Source.tells _ _ w asked r h told _ _ c.in_ok-packages.packages
    (set_seen c.in_ok-packages.packages) packages.gives packages.asked packages.tree u
    (c.in_err-expr.ensures.gives h.parse h.reads)) h.comes)

pub returns-in_err-expr-clause-asked : goal.returns-in_err-expr-clause-asked
returns-in_err-expr-clause-asked g c = λ asked told r h.
    let w = request_seen c.args.request.now in
    let packages = c.in_ok-packages.ensures in
    let u = c.in_err-expr.field-0.0 in
    pattern_asks g.F.Source.tells _ _ w asked r h told _ _ c.in_ok-packages.packages
    (set_seen c.in_ok-packages.packages) packages.gives packages.asked packages.tree _
    c.from_residual-in_err-expr.result
    (λ t. asked_through _ _ _ c.from_residual-in_err-expr.result u c.from_residual-in_err-expr.ensures.1
    (c.in_err-expr.ensures.asked h.parse h.reads t))

pub returns-clause-asked : goal.returns-clause-asked
returns-clause-asked g c = λ asked told r h.
    let w = request_seen c.args.request.now in
    let packages = c.in_ok-packages.ensures in
    pattern_asks g.F.Source.tells _ _ w asked r h told _ _ c.in_ok-packages.packages
    (set_seen c.in_ok-packages.packages) packages.gives packages.asked packages.tree _ c.pass_goal.result
    (λ t. passes_asked _ _ _ c.in_ok-expr.expr c.pass_goal.result c.pass_goal.ensures.own
    (c.in_ok-expr.ensures.asked h.parse h.reads t))

pub returns-clause-prepares : goal.returns-clause-prepares
returns-clause-prepares g c = λ asked told r h.
    let w = request_seen c.args.request.now in
    let packages = c.in_ok-packages.ensures in
    let made =
    pattern_comes g.F.Source.tells _ _ w asked r h told _ _ c.in_ok-packages.packages
    (set_seen c.in_ok-packages.packages) packages.gives packages.asked packages.tree _
    (c.in_ok-expr.ensures.gives h.parse h.reads) in
    c.pass_goal.ensures.prepares r (subst (λ x. GoalPasses x r) made h.comes)

pub returns-clause-names : goal.returns-clause-names
returns-clause-names g c =
    let packages = c.load_goal.new.packages in
    let e = expr_of c.in_ok-expr.expr in
    let known = resolves_out e (set_seen packages)
    (∥∥₁_map packages.built (λ b. patterns_resolve (set_seen packages) b e c.in_ok-expr.ensures.right)) in
    resolves_if c.pass_goal.result e (set_seen packages) known c.pass_goal.ensures.packages c.pass_goal.ensures.expr

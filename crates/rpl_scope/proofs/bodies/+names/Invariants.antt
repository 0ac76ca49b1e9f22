use Rattle.std.proofs.Common.{◌≡◌, ◌++◌, map, drop}
use Rattle.rpl_syntax.specs.View.{exprs_all}
use Rattle.rpl_scope.specs.Bodies.{names_all}
use Rattle.rpl_scope.proofs.bodies.+names.Given as goal

abbrev pub invariant-push_all_names-loop-e : goal.invariant-push_all_names-loop-e
invariant-push_all_names-loop-e l = map (λ q. q.now) l.all.items ++ names_all (exprs_all (drop l.e-index l.es))
    ≡ map (λ q. q.now) l.fn.all.items ++ names_all (exprs_all l.es)

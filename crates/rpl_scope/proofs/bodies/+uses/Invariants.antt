use Rattle.std.proofs.Common.{◌≡◌, ◌++◌, map, drop}
use Rattle.rpl_syntax.specs.View.{exprs_all}
use Rattle.rpl_scope.specs.Bodies.{uses_all}
use Rattle.rpl_scope.specs.Seen.{use_seen}
use Rattle.rpl_scope.proofs.bodies.+uses.Given as goal

abbrev pub invariant-push_all_uses-loop-e : goal.invariant-push_all_uses-loop-e
invariant-push_all_uses-loop-e l = map use_seen l.all.items ++ uses_all (exprs_all (drop l.e-index l.es))
    ≡ map use_seen l.fn.all.items ++ uses_all (exprs_all l.es)

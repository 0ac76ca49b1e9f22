use Rattle.std.proofs.Common.{◌≡◌, ◌++◌, map, drop}
use Rattle.rpl_scope.specs.Statements.{names_of}
use Rattle.rpl_syntax.specs.Modules as S
use Rattle.rpl_scope.proofs.statements.gather_names.Given as goal

abbrev pub invariant-loop-binding : goal.invariant-loop-binding
invariant-loop-binding l = map (λ q. q.now) l.all.items ++ names_of (S.rules_of (drop l.binding-index l.bindings))
    ≡ map (λ q. q.now) l.fn.all.items ++ names_of (S.rules_of l.bindings)

use Rattle.std.proofs.Common.{◌≡◌, ◌++◌, map, drop}
use Rattle.rpl_scope.specs.Statements.{uses_of}
use Rattle.rpl_scope.specs.Seen.{use_seen}
use Rattle.rpl_syntax.specs.Modules as S
use Rattle.rpl_scope.proofs.statements.gather_uses.Given as goal

abbrev pub invariant-loop-binding : goal.invariant-loop-binding
invariant-loop-binding l = map use_seen l.all.items ++ uses_of (S.rules_of (drop l.binding-index l.bindings))
    ≡ map use_seen l.fn.all.items ++ uses_of (S.rules_of l.bindings)

use Rattle.std.proofs.Common.{◌≡◌, map, drop}
use Rattle.rpl_scope.specs.Bodies.{named_fault}
use Rattle.rpl_scope.specs.Faults.{first_fault}
use Rattle.rpl_scope.specs.Seen.{module_seen, modules_seen}
use Rattle.rpl_scope.proofs.checks.check_names.Given as goal

abbrev pub invariant-loop-name : goal.invariant-loop-name
invariant-loop-name l =
    first_fault (named_fault l.file (modules_seen l.scope.modules.now) (module_seen l.scope.own.now) l.scope.start)
    (map (λ q. q.now) (drop l.name-index l.names))
    ≡ first_fault (named_fault l.file (modules_seen l.scope.modules.now) (module_seen l.scope.own.now) l.scope.start)
    (map (λ q. q.now) l.names)

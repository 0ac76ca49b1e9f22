use Rattle.std.proofs.Common.{◌≡◌, map, drop}
use Rattle.rpl_scope.specs.Bodies.{used_fault}
use Rattle.rpl_scope.specs.Faults.{first_fault}
use Rattle.rpl_scope.specs.Seen.{use_seen}
use Rattle.rpl_scope.proofs.checks.check_macros.Given as goal

abbrev pub invariant-loop-used : goal.invariant-loop-used
invariant-loop-used l = first_fault (used_fault l.file) (map use_seen (drop l.used-index l.uses))
    ≡ first_fault (used_fault l.file) (map use_seen l.uses)

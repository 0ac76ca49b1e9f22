use Rattle.std.proofs.Common.{◌≡◌, ◌≤◌, drop}
use Rattle.rpl_scope.specs.Imports.{numbered}
use Rattle.rpl_scope.specs.Seen.{rules_seen}
use Rattle.rpl_scope.specs.Taken.{taken_names}
use Rattle.rpl_scope.proofs.imports.are_taken_names.Given as goal

abbrev pub invariant-loop-number : goal.invariant-loop-number
invariant-loop-number l =
    record {
      next : l.next ≤ l.number;
      left : drop l.next l.names ≡ taken_names l.since l.owner (numbered l.number (rules_seen (drop l.number l.rules)))
          → l.names ≡ taken_names l.since l.owner (numbered 0 (rules_seen l.rules));
    }

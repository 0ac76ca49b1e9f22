use Rattle.std.proofs.Common.{◌≡◌, drop}
use Rattle.rpl_scope.specs.Faults.{in_turn}
use Rattle.rpl_scope.specs.Imports.{add_name, numbered}
use Rattle.rpl_scope.specs.Seen.{module_seen, rules_seen}
use Rattle.rpl_scope.proofs.imports.add_names.Given as goal

abbrev pub invariant-loop-rule : goal.invariant-loop-rule
invariant-loop-rule l =
    record {
      number : l.number ≡ l.rule-index;
      left : in_turn (add_name l.place.file.now l.place.at l.owner)
          (numbered l.rule-index (rules_seen (drop l.rule-index l.rules))) (module_seen l.own)
          ≡ in_turn (add_name l.place.file.now l.place.at l.owner) (numbered 0 (rules_seen l.rules))
          (module_seen l.fn.own);
    }

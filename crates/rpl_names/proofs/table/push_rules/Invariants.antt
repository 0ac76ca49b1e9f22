use Rattle.std.proofs.Common.{◌≡◌, ◌≤◌, ◌+◌, ◌++◌, length, drop}
use Rattle.rpl_scope.specs.Seen.{rules_seen}
use Rattle.rpl_names.specs.Tables.{begun_in, rows_of}
use Rattle.rpl_names.proofs.table.push_rules.Given as goal

abbrev pub invariant-loop-rule : goal.invariant-loop-rule
invariant-loop-rule l =
    record {
      place : l.place ≡ l.rule-index;
      fits : l.begun ≤ length l.rows.items;
      few : 2 + length l.rows.items ≤ 4294967295;
      rows : l.rows.items ++ rows_of l.owner.label.now l.owner.number l.place l.begun
          (rules_seen (drop l.rule-index l.rules)) ≡ l.fn.rows.items ++ rows_of l.owner.label.now l.owner.number 0
          l.blocks (rules_seen l.rules);
      begun : begun_in l.begun l.place (rules_seen (drop l.rule-index l.rules))
          ≡ begun_in l.blocks 0 (rules_seen l.rules);
    }

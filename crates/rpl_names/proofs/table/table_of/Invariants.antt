use Rattle.std.proofs.Common.{◌≡◌, ◌≤◌, ◌+◌, ◌++◌, length, drop}
use Rattle.rpl_scope.specs.Seen.{modules_seen}
use Rattle.rpl_names.specs.Tables.{rows_from}
use Rattle.rpl_names.specs.Firsts.{firsts_from}
use Rattle.rpl_names.proofs.table.table_of.Given as goal

abbrev pub invariant-loop-module : goal.invariant-loop-module
invariant-loop-module l =
    record {
      from : l.from ≡ l.module-index;
      begun : l.blocks ≤ length l.rows.items;
      few : 2 + length l.rows.items ≤ 4294967295;
      rows : l.rows.items ++ rows_from l.from l.blocks (modules_seen (drop l.module-index l.modules))
          ≡ rows_from 0 0 (modules_seen l.modules);
      firsts : l.firsts.items ++ firsts_from (2 + length l.rows.items) (modules_seen (drop l.module-index l.modules))
          ≡ firsts_from 2 (modules_seen l.modules);
    }

use Rattle.std.proofs.Common.{◌≡◌, ◌≤◌, ◌++◌, length}
use Rattle.rpl_core.specs.Listed.{rules_of}
use Rattle.rpl_forms.specs.Counting.{KnowsInners}
use Rattle.rpl_forms.specs.Rows.{inners_of, rows_of}
use Rattle.rpl_names.specs.Sets.{set_seen}
use Rattle.rpl_expand.specs.Faults.{table_fault}
use Rattle.rpl_expand.specs.Sets.{table_of}
use Rattle.rpl_expand.specs.Table.{rows}
use Rattle.rpl_expand.proofs.Standing.{from}
use Rattle.rpl_expand.proofs.table.expand.Given as goal

abbrev pub invariant-loop-number : goal.invariant-loop-number
invariant-loop-number l =
    let rs = rules_of l.table.rules in
    let p = set_seen l.packages in
    let rest = rows (inners_of rs) (from p l.number) in
    record {
      table_is : rows_of rs ++ rest ≡ table_of p;
      fault_is : table_fault l.number rest ≡ table_fault 0 (table_of p);
      knows : KnowsInners l.table.known.items (inners_of rs);
      place : length rs ≡ l.number;
      behind : 2 ≤ l.number;
    }

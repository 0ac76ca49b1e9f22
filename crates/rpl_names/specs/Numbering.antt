-- The rule table of some modules.
use Rattle.std.specs.Prelude.{◌≡◌, ◌≤◌, ◌+◌, List, length}
use Rattle.rpl_names.specs.Tables.{rows}
use Rattle.rpl_names.specs.Firsts.{firsts}
use Rattle.rpl_names.specs.declared.table.Table.{Table}
use Rattle.rpl_scope.specs.Packages as P

-- the table has the rows of these modules, and the number of the first rule of each; its numbers fit
pub record IsTable (t : Table) (ms : List P.Module) : Type 0 where
  pub rows : t.rows.items ≡ rows ms
  pub firsts : t.firsts.items ≡ firsts ms
  pub few : 2 + length t.rows.items ≤ 4294967295

use Rattle.std.proofs.Common.{◌≡◌, ◌++◌, drop}
use Rattle.rpl_columns.specs.Cells.{between, later}
use Rattle.rpl_columns.specs.Rows.{names, separator}
use Rattle.rpl_columns.proofs.row.put_names.Given as goal

-- what is written, and the names that are left
abbrev pub invariant-loop-index : goal.invariant-loop-index
invariant-loop-index l =
    l.out.items ++ later (separator l.sheet.format) l.index (names l.format (drop l.index l.sheet.columns))
    ≡ l.initial.out.items ++ between (separator l.sheet.format) (names l.format l.sheet.columns)

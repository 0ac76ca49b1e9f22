use Rattle.std.proofs.Common.{◌≡◌, drop}
use Rattle.std.specs.Prelude.{chars}
use Rattle.rpl_scope.specs.Packages.{first_of}
use Rattle.rpl_scope.specs.inside.Held.{held}
use Rattle.rpl_scope.proofs.names.get_in.Given as goal

abbrev pub invariant-loop-table : goal.invariant-loop-table
invariant-loop-table l = first_of (chars l.name) (held (drop l.table-index l.tables))
    ≡ first_of (chars l.name) (held l.tables)

use Rattle.std.proofs.Common.{◌≡◌, drop}
use Rattle.rpl_codefile.specs.inside.Tables.{come, number_in}
use Rattle.rpl_codefile.proofs.tables.count_used.Given as goal

abbrev pub invariant-loop-item : goal.invariant-loop-item
invariant-loop-item l = come (number_in l.table) l.came (drop l.item-index l.code) ≡ come (number_in l.table) 0 l.code

-- How contracts see a table of rules as rows, and what stands for each rule in a look-behind.
use Rattle.std.specs.Prelude.{List, [], map}
use Rattle.rpl_core.specs.View.{core_of}
use Rattle.rpl_core.specs.declared.rules.Rule.{Rule}
use Rattle.rpl_forms.specs.Inlining.{Inners}
pub use Rattle.rpl_forms.specs.Table.{Row, inners_from}

abbrev pub row_at : Rule → Row
row_at r = record { name = r.name; block = r.block; body = core_of r.body }

abbrev pub rows_of : List Rule → List Row
rows_of = map row_at

-- what stands in a look-behind for each rule of a table
abbrev pub inners_of : List Rule → Inners
inners_of rs = inners_from [] (rows_of rs)

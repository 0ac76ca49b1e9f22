-- The programs, by their names.
use Rattle.rosie_run.specs.declared.tool.Tool.{Tool}
use Rattle.rosie_run.specs.declared.tool.Tool.TheVariants.{Rosie, RosieColumns}
use Rattle.std.specs.Prelude.{List, codes, ℕ}

abbrev pub name_of : Tool → List ℕ
name_of Rosie = codes "rosie"
name_of RosieColumns = codes "rosie-columns"

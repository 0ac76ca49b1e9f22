-- What the parser's counter stands for.
use Rattle.std.specs.Prelude.{reverse}
use Rattle.rpl_parser.specs.Levels.{Level}
use Rattle.rpl_parser.specs.declared.level.Depth.{Depth}

abbrev pub level_of : Depth → Level
level_of d = record { base = d.base; level = d.level; bases = reverse d.bases.items }

-- What the parser's statements stand for.
use Rattle.rpl_syntax.specs.View.{expr_of}
use Rattle.rpl_parser.specs.Spelling as L
use Rattle.rpl_parser.specs.declared.line.Line.{Line}
use Rattle.rpl_parser.specs.declared.line.Line.TheVariants.{Version, Package, Imports, Binds, Opens, Splits, Closes}

abbrev pub line_seen : Line → L.Line
line_seen (Version major minor) = L.Version major minor
line_seen (Package name) = L.Package name
line_seen (Imports entries) = L.Imports entries
line_seen (Binds local alias name body) = L.Binds local alias name (expr_of body)
line_seen Opens = L.Opens
line_seen Splits = L.Splits
line_seen Closes = L.Closes

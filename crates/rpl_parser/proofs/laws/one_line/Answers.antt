use Rattle.rpl_parser.proofs.Spelled.{line_again, line_sound, line_unique}
use Rattle.rpl_parser.proofs.laws.one_line.Goals as goal

pub returns : goal.returns
returns c = record { only = line_unique; read = line_again; spelled = line_sound }

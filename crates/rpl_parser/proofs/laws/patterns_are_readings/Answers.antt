use Rattle.rpl_parser.proofs.Told.{pattern_read, read_pattern}
use Rattle.rpl_parser.proofs.laws.patterns_are_readings.Goals as goal

pub returns : goal.returns
returns c = record { read = pattern_read; pattern = read_pattern }

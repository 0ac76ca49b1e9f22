use Rattle.rpl_parser.proofs.Answered.{either, pattern_unique, pattern_apart, fault_unique}
use Rattle.rpl_parser.proofs.laws.one_pattern.Goals as goal

pub returns : goal.returns
returns c = record { either = either; only = pattern_unique; apart = pattern_apart; first = fault_unique }

use Rattle.rpl_syntax.proofs.Unique.{again, sound, unique}
use Rattle.rpl_syntax.proofs.laws.one_reading.Goals as goal

pub returns : goal.returns
returns c = record { only = unique; read = again; spelled = sound }

use Rattle.rosie_inspect.proofs.Rows.{one_pattern_text}
use Rattle.rosie_inspect.proofs.laws.one_expansion.Goals as goal

pub returns : goal.returns
returns c = one_pattern_text

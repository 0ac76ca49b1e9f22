use Rattle.rosie_inspect.proofs.Texts.{one_text}
use Rattle.rosie_inspect.proofs.laws.one_names_text.Goals as goal

pub returns : goal.returns
returns c = one_text

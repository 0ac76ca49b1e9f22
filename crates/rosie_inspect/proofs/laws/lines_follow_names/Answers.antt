use Rattle.rosie_inspect.proofs.Following.{lines_follow_names}
use Rattle.rosie_inspect.proofs.laws.lines_follow_names.Goals as goal

pub returns : goal.returns
returns c = lines_follow_names

use Rattle.rosie_columns_cli.proofs.Objects.{piped}
use Rattle.rosie_columns_cli.proofs.laws.piped.Goals as goal

pub returns : goal.returns
returns c = piped

use Rattle.std.proofs.Common.{sym}
use Rattle.rosie_prepare.proofs.Characters.{spelled}
use Rattle.rosie_prepare.proofs.rules.as_it_is.Goals as goal

pub returns : goal.returns
returns c = sym (spelled _ c.utf8.text)

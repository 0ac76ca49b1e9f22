use Rattle.rpl_expand.proofs.Loaded.{scopes_are_over}
use Rattle.rpl_expand.proofs.load_laws.scopes_are_over.Goals as goal

pub returns : goal.returns
returns c = scopes_are_over

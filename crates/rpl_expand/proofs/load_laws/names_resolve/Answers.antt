use Rattle.rpl_expand.proofs.Loaded.{patterns_resolve, statements_resolve}
use Rattle.rpl_expand.proofs.load_laws.names_resolve.Goals as goal

pub returns : goal.returns
returns c = record { statements = statements_resolve; patterns = patterns_resolve }
